-- An answer that is put together and written piece by piece.
-- The writer's known bytes were before when the answer was begun, and are after now.
use Rattle.std.specs.Prelude.{◌≡◌, ℕ, List, ◌++◌, length, take, Option, Bool, true, codes}
use Rattle.std.specs.Io.KnownBytes.{Appends}
use Rattle.std.specs.Option.{option_map}
use Rattle.std.specs.Borrow.{Bor}
use Rattle.counter_http.specs.declared.telling.Response.{Response}
use Rattle.counter_http.specs.believed.Answers.{Answer, status_words, allow_line, close_line}

-- a prefix of the text was written, and where the writer took all of it so far, the rest is held
pub record IsWrittenOrHeld (before after : Option (List ℕ)) (going : Bool) (held text : List ℕ) : Type 0 where
  pub written : List ℕ
  pub wrote : Appends before after written
  pub begins : written ≡ take (length written) text
  pub whole : going ≡ true → text ≡ written ++ held

abbrev pub now_of : Bor (List ℕ) → List ℕ
now_of part = part.now

abbrev pub said : Response → Answer
said r = record { code = r.status; media = r.media.now; allow = option_map now_of r.allow; body = r.body.now }

-- the bytes before the body's length, and those between it and the body
unfoldable pub first_lines : Answer → List ℕ
first_lines a =
    codes "HTTP/1.1 " ++ status_words a.code ++ codes "\r\nContent-Type: " ++ a.media
    ++ codes "\r\nContent-Length: "

unfoldable pub last_lines : Answer → Bool → List ℕ
last_lines a closes = codes "\r\n" ++ allow_line a.allow ++ close_line closes ++ codes "\r\n"
