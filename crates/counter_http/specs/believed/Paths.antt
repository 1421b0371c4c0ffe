-- Which route a path leads to.
use Rattle.std.specs.Prelude.{ℕ, List, length, take, drop, Option, Some, None, Bool, not, ◌&&◌, ◌==◌, nat_lt}
use Rattle.std.specs.Prelude.{codes, bytes_eq, if◌then◌else◌}
use Rattle.std.specs.List.{list_any, before_first}
use Rattle.std.specs.Str.{is_utf8}
use Rattle.counter_http.specs.declared.routes.Route.{Route}
use Rattle.counter_http.specs.declared.routes.Route.TheVariants.{Posting, Account, Teller, Branches, Health, Log, Metrics}
use Rattle.counter_http.specs.declared.routes.Route.TheVariants.{Plan}

abbrev pub path_of : List ℕ → List ℕ
path_of target = before_first (λ b. b == 63) target

abbrev pub is_slash : ℕ → Bool
is_slash b = b == 47

-- it begins so, and after that has one part that isn't empty
abbrev pub is_part_after : List ℕ → List ℕ → Bool
is_part_after start path =
    bytes_eq (take (length start) path) start &&
    (nat_lt (length start) (length path) && not (list_any is_slash (drop (length start) path)))

-- a number as it is printed, so that 01 names no account
abbrev pub is_account_path : List ℕ → Bool
is_account_path path = is_part_after (codes "/account/") path

abbrev pub account_in : List ℕ → List ℕ
account_in path = drop 9 path

abbrev pub is_teller_path : List ℕ → Bool
is_teller_path path = is_part_after (codes "/teller/") path

abbrev pub teller_in : List ℕ → List ℕ
teller_in path = drop 8 path

-- so many requests, as the number is printed
abbrev pub is_log_path : List ℕ → Bool
is_log_path path = is_part_after (codes "/log/") path

abbrev pub place_in : List ℕ → List ℕ
place_in path = drop 5 path

-- the route of a text
abbrev pub route_named : List ℕ → Option Route
route_named path =
    if bytes_eq path (codes "/post") then Some Posting
    else (if bytes_eq path (codes "/branches") then Some Branches
    else (if bytes_eq path (codes "/health") then Some Health
    else (if bytes_eq path (codes "/metrics") then Some Metrics
    else (if bytes_eq path (codes "/plan") then Some Plan
    else (if is_account_path path then Some Account
    else (if is_log_path path then Some Log
    else (if is_teller_path path then Some Teller else None)))))))

unfoldable pub route_of : List ℕ → Option Route
route_of path = if is_utf8 path then route_named path else None
