-- What the commands `replay` and `digest` print.
use Rattle.std.specs.Prelude.{◌≡◌, ◌≢◌, ℕ, List, ◌++◌, codes, Option, Result}
use Rattle.std.specs.Prelude.{IfErr, IfSome, OnOk}
use Rattle.std.specs.Result.{IsErrOf}
use Rattle.std.specs.Fmt.{decimal}
use Rattle.std.specs.Io.KnownBytes.{Appends, Keeps}
use Rattle.hex.specs.Hex.{encode_lower}
use Rattle.posting_core.specs.believed.EndCalls.{EndsWith}
use Rattle.posting_core.specs.EndCalls.{HasWriteFailed, IsFlush, WriteCall}
use Rattle.report_contents.specs.Lines.{right_in}
use Rattle.report_contents.specs.Written.{AppendsPart}
use Rattle.command_line.specs.declared.fault.CommandFault.{CommandFault}
use Rattle.command_line.specs.declared.fault.CommandFault.TheVariants.{Memory, Write}

-- how many requests there are, and the label of the digest
abbrev pub before_digits : ℕ → List ℕ
before_digits requests = codes "requests    " ++ right_in 20 (decimal requests) ++ codes "\ndigest      "

-- how many requests there are, and the digest over them in hex digits
abbrev pub digest_lines : ℕ → List ℕ → List ℕ
digest_lines requests sha256 = before_digits requests ++ (encode_lower sha256 ++ codes "\n")

-- and the digest of the plan
abbrev pub plan_lines : ℕ → (sha256 plan : List ℕ) → List ℕ
plan_lines requests sha256 plan =
    digest_lines requests sha256 ++ (codes "plan        " ++ (encode_lower plan ++ codes "\n"))

-- a replay agreed; its fourth line is the digest of the closed numbers
abbrev pub agreeing_lines : ℕ → (sha256 plan closings : List ℕ) → List ℕ
agreeing_lines requests sha256 plan closings =
    plan_lines requests sha256 plan ++ (codes "closing     " ++ (encode_lower closings ++ codes "\nAGREES\n"))

-- the text of a value, where its `Display` says which that is
abbrev pub IsTextOf : Option (List ℕ) → List ℕ → Type 0
IsTextOf output text = IfSome output (λ known. text ≡ known)

-- it differed, and this is the first difference
abbrev pub differing_lines : List ℕ → List ℕ
differing_lines difference = difference ++ codes "\nDIFFERS\n"

-- A text is printed, or memory for it was refused. w and w' are the known bytes of the output before and after, and t
-- and t' what its calls are known to have returned.
pub record PrintsText (text : List ℕ) (w w' : Option (List ℕ)) (t t' : Option (List WriteCall))
    (end : Result (Unit {0}) CommandFault) : Type 0 where
  -- at Ok it is written, and flushed after all else
  pub line : OnOk end (Appends w w' text)
  pub flushed : OnOk end (EndsWith IsFlush t t')
  -- where the output failed a prefix of it is written
  pub part : IsErrOf end Write → AppendsPart w w' text
  pub failed : IsErrOf end Write → HasWriteFailed t t'
  -- and at any other fault, which is want of memory, nothing
  pub silent : IfErr end (λ fault. fault ≢ Write → Keeps w w')
  pub memory : IfErr end (λ fault. fault ≢ Write → fault ≡ Memory)
