-- A number that is printed right in so many places.
use Rattle.std.proofs.Common.{false, ◌≡◌, ℕ, [], ◌++◌, append_assoc, codes}
use Rattle.std.specs.Fmt.{decimal, format_spec, padded_integral}
use Rattle.counter_http.proofs.Listed.{right_printed}
use Rattle.command_line.specs.Replaying.{before_digits}

pub requests_filled : (n : ℕ)
    → codes "requests    " ++ (padded_integral (format_spec 32 3 0 20 18446744073709551615) false [] (decimal n)
    ++ codes "\ndigest      ") ≡ before_digits n
requests_filled n = rw (right_printed 20 n) (simp append_assoc)
