-- A text that is written part by part.
use Rattle.std.proofs.Common.{◌≡◌, ℕ, ◌+◌, ◌≤◌, Bool, true, false, List, [], ◌++◌, length, take, drop, Option, Some}
use Rattle.std.proofs.Common.{None, Result, Ok, Err, refl, sym, ap, subst, ◌∙◌, append_assoc, append-nil, arith}
use Rattle.std.specs.Prelude.{OnOk, OnErr, codes, unwrap_or, is_ok}
use Rattle.std.specs.{Fmt.decimal, Io.KnownBytes.Appends, Option.option_map, Result.IsErrOf}
use Rattle.std.proofs.KnownBytes.{Appends-trans, Appends-nil}
use Rattle.std.proofs.Math.Seq.{take-append-add, take-append_seam}
use Rattle.std.proofs.lemmas.List.{length-append, length-take, take_all, take-append-drop, take-append-le}
use Rattle.std.proofs.lemmas.List.{length-take-le}
use Rattle.std.proofs.lemmas.Result.{on_ok_weaker}
use Rattle.http.specs.StatusCode.{reason_phrase, code_digits}
use Rattle.posting_core.specs.EndCalls.{WriteCall}
use Rattle.counter_http.specs.believed.Answers.{Answer, status_words, allow_line, close_line, answer_text, bare}
use Rattle.counter_http.specs.{declared.fault.ServeFault.ServeFault, declared.fault.ServeFault.TheVariants.Write}
use Rattle.counter_http.specs.{Ends.SendsAs, Turns.IsSentAs, Turns.IsWrittenTo}
use Rattle.counter_http.specs.Telling.{IsWrittenOrHeld, first_lines, last_lines}

pub on_ok_true : {A E : Type 0} {P : Type 0} (r : Result A E) → OnOk r P → is_ok r ≡ true → P
on_ok_true (Ok x) p e = p
on_ok_true (Err x) p e = cc e

pub on_err_true : {A E : Type 0} {P : Type 0} (r : Result A E) → OnErr r P → is_ok r ≡ false → P
on_err_true (Ok x) p e = cc e
on_err_true (Err x) p e = p

-- a prefix of a text is one of a longer text
longer : (text more done : List ℕ) → done ≡ take (length done) text → done ≡ take (length done) (text ++ more)
longer text more done e =
    let len = ap length e in
    let fits : length done ≤ length text = omega (arith, len, length-take (length done) text) in
    e ∙ sym (take-append-le (length done) text more fits)

pub told_none : (w : Option (List ℕ)) (held : List ℕ) → held ≡ [] → IsWrittenOrHeld w w true held []
told_none w held e = record { written = []; wrote = Appends-nil w; begins = refl; whole = λ _. sym e }

-- nothing more is told, since the writer failed before
pub told_failed : {a b : Option (List ℕ)} (held held' text more : List ℕ)
    → IsWrittenOrHeld a b false held text
    → IsWrittenOrHeld a b false held' (text ++ more)
told_failed held held' text more t = record {
  written = t.written;
  wrote = t.wrote;
  begins = longer text more t.written t.begins;
  whole = λ e. cc e;
}

-- more is held
pub told_held : {a b : Option (List ℕ)} (held held' text more : List ℕ) → held' ≡ held ++ more
    → IsWrittenOrHeld a b true held text
    → IsWrittenOrHeld a b true held' (text ++ more)
told_held held held' text more e t = record {
  written = t.written;
  wrote = t.wrote;
  begins = longer text more t.written t.begins;
  whole = λ _. ap (λ (x : List ℕ). x ++ more) (t.whole refl) ∙ append_assoc t.written held more
      ∙ ap (λ (x : List ℕ). t.written ++ x) (sym e);
}

-- what is taken of a text is a prefix of it
pub front_of : (n : ℕ) (xs : List ℕ) → take n xs ≡ take (length (take n xs)) xs
front_of n xs =
    sym (ap (take (length (take n xs))) (sym (take-append-drop n xs))
    ∙ take-append_seam (take n xs) (drop n xs))

-- a prefix of what was held was written
front_take : (n : ℕ) (a b : List ℕ) → n ≤ length b → a ++ take n b ≡ take (length (a ++ take n b)) (a ++ b)
front_take n a b fits =
    let len : length (a ++ take n b) ≡ length a + n =
    omega (arith, length-append a (take n b), length-take-le n b fits) in
    sym (ap (λ (k : ℕ). take k (a ++ b)) len ∙ take-append-add a b n)

pub told_sent : {A E : Type 0} {a b c : Option (List ℕ)} (held text : List ℕ) (r : Result A E)
    → IsWrittenOrHeld a b true held text
    → ((n : ℕ) × (n ≤ length held) × Appends b c (take n held) × OnOk r (n ≡ length held))
    → (is_ok r ≡ true → IsWrittenOrHeld a c true [] text) × IsWrittenOrHeld a c false held text
told_sent {a = a} {b = b} {c = c} held text r t w =
    let both = t.written ++ take w.0 held in
    let wrote = Appends-trans a b c t.written (take w.0 held) t.wrote w.2 in
    let begins : both ≡ take (length both) text =
    front_take w.0 t.written held w.1 ∙ ap (take (length both)) (sym (t.whole refl)) in (
      λ ok.
          let all : take w.0 held ≡ held = take_all w.0 held (omega (arith, on_ok_true r w.3 ok)) in
          record {
            written = both;
            wrote = wrote;
            begins = begins;
            whole = λ _. t.whole refl ∙ ap (λ (x : List ℕ). t.written ++ x) (sym all) ∙ sym (append-nil both);
          },
      record { written = both; wrote = wrote; begins = begins; whole = λ e. cc e },
    )

-- more is written at once
pub told_more : {A E : Type 0} {a b c : Option (List ℕ)} (text more : List ℕ) (done : Bool) (r : Result A E)
    → IsWrittenOrHeld a b true [] text
    → ((n : ℕ) × (n ≤ length more) × Appends b c (take n more) × OnOk r (n ≡ length more)) → done ≡ is_ok r
    → IsWrittenOrHeld a c done [] (text ++ more)
told_more {a = a} {b = b} {c = c} text more done r t w e =
    let all : text ≡ t.written = t.whole refl ∙ append-nil t.written in
    let both = t.written ++ take w.0 more in
    record {
      written = both;
      wrote = Appends-trans a b c t.written (take w.0 more) t.wrote w.2;
      begins = front_take w.0 t.written more w.1
          ∙ ap (λ (x : List ℕ). take (length both) (x ++ more)) (sym all);
      whole = λ yes.
          let whole : take w.0 more ≡ more =
          take_all w.0 more (omega (arith, on_ok_true r w.3 (sym e ∙ yes))) in
          ap (λ (x : List ℕ). x ++ more) all ∙ ap (λ (x : List ℕ). t.written ++ x) (sym whole)
          ∙ sym (append-nil both);
    }

-- one text in place of another, and one that holds the same
pub told_as : {a b : Option (List ℕ)} {going : Bool} {held : List ℕ} (text other : List ℕ) → text ≡ other
    → IsWrittenOrHeld a b going held text → IsWrittenOrHeld a b going held other
told_as {a = a} {b = b} {going = going} {held = held} text other e t =
    subst (λ (x : List ℕ). IsWrittenOrHeld a b going held x) e t

pub holding : {a b : Option (List ℕ)} {going : Bool} {held held' text : List ℕ} → held ≡ held'
    → IsWrittenOrHeld a b going held text
    → IsWrittenOrHeld a b going held' text
holding {a = a} {b = b} {going = going} {text = text} e t =
    subst (λ (x : List ℕ). IsWrittenOrHeld a b going x text) e t

pub telling : {a b : Option (List ℕ)} {going going' : Bool} {held text : List ℕ} → going ≡ going'
    → IsWrittenOrHeld a b going held text
    → IsWrittenOrHeld a b going' held text
telling {a = a} {b = b} {held = held} {text = text} e t =
    subst (λ (x : Bool). IsWrittenOrHeld a b x held text) e t

-- what two texts at the front are
pub three : (t a b c : List ℕ) → ((t ++ a) ++ b) ++ c ≡ t ++ ((a ++ b) ++ c)
three t a b c = simp append_assoc

pub first_is : (a : Answer) (digits phrase : List ℕ) → digits ≡ code_digits a.code
    → phrase ≡ unwrap_or (reason_phrase a.code) []
    → ((((((([] ++ codes "HTTP/1.1 ") ++ digits) ++ codes " ") ++ phrase) ++ codes "\r\nContent-Type: ")
    ++ a.media) ++ codes "\r\nContent-Length: ") ≡ first_lines a
unfolding first_lines status_words
first_is a digits phrase d p =
    rw (d, p) (ap (λ (x : List ℕ). ((x ++ codes "\r\nContent-Type: ") ++ a.media)
    ++ codes "\r\nContent-Length: ")
    (three (codes "HTTP/1.1 ") (code_digits a.code) (codes " ") (unwrap_or (reason_phrase a.code) [])))

-- the reason phrase, where there is one
pub phrase_is : {X : Type 0} (f : X → List ℕ) (o : Option X) (x : X) (r : Option (List ℕ)) → f x ≡ []
    → option_map f o ≡ r → f (unwrap_or o x) ≡ unwrap_or r []
phrase_is f None x r none e = none ∙ ap (λ (q : Option (List ℕ)). unwrap_or q []) e
phrase_is f (Some y) x r none e = ap (λ (q : Option (List ℕ)). unwrap_or q []) e

regroup : (h s i m j d q a l r b : List ℕ)
    → (((h ++ s ++ i ++ m ++ j) ++ d) ++ (q ++ a ++ l ++ r)) ++ b ≡ h ++ s ++ i ++ m ++ j ++ d ++ q ++ a ++ l
    ++ r ++ b
regroup h s i m j d q a l r b = simp append_assoc

-- the text of an answer
pub text_shown : (a : Answer) (closes : Bool)
    → ((first_lines a ++ decimal (length a.body)) ++ last_lines a closes) ++ a.body
    ≡ answer_text a true closes
unfolding first_lines last_lines answer_text
text_shown a closes =
    regroup (codes "HTTP/1.1 ") (status_words a.code) (codes "\r\nContent-Type: ") a.media
    (codes "\r\nContent-Length: ") (decimal (length a.body))
    (codes "\r\n") (allow_line a.allow) (close_line closes) (codes "\r\n") a.body

pub text_hidden : (a : Answer) (closes : Bool)
    → (first_lines a ++ decimal (length a.body)) ++ last_lines a closes ≡ answer_text a false closes
unfolding first_lines last_lines answer_text
text_hidden a closes =
    sym (append-nil _)
    ∙ regroup (codes "HTTP/1.1 ") (status_words a.code) (codes "\r\nContent-Type: ") a.media
    (codes "\r\nContent-Length: ") (decimal (length a.body))
    (codes "\r\n") (allow_line a.allow) (close_line closes) (codes "\r\n") []

-- the writer failed
pub told_part : {a b : Option (List ℕ)} {held : List ℕ} {going : Bool} (text : List ℕ)
    → IsWrittenOrHeld a b going held text
    → (n : ℕ) × Appends a b (take n text)
told_part {a = a} {b = b} text t = (length t.written, subst (λ (x : List ℕ). Appends a b x) t.begins t.wrote)

-- what is held is written, and all was
pub told_all : {A E : Type 0} (a b c : Option (List ℕ)) (held text : List ℕ) (r : Result A E)
    → IsWrittenOrHeld a b true held text
    → ((n : ℕ) × (n ≤ length held) × Appends b c (take n held) × OnOk r (n ≡ length held))
    → (n : ℕ) × Appends a c (take n text) × OnOk r (n ≡ length text)
told_all a b c held text r t w =
    let both = t.written ++ take w.0 held in
    let begins : both ≡ take (length t.written + w.0) text =
    sym (take-append-add t.written held w.0) ∙ ap (take (length t.written + w.0)) (sym (t.whole refl)) in
    let len : length text ≡ length t.written + length held = ap length (t.whole refl)
    ∙ length-append t.written held in (
      length t.written + w.0,
      subst (λ (x : List ℕ). Appends a c x) begins
          (Appends-trans a b c t.written (take w.0 held) t.wrote w.2),
      on_ok_weaker r (λ e. omega (arith, e, len)) w.3,
    )

-- ---- the lines after the length

pub allowed : {X : Type 0} (f : X → List ℕ) (o : Option X) (x : X) → o ≡ Some x
    → (codes "Allow: " ++ f x) ++ codes "\r\n" ≡ allow_line (option_map f o)
allowed f o x e = rw e refl

pub not_told : {X : Type 0} (f : X → List ℕ) (o : Option X) → o ≡ None → [] ≡ allow_line (option_map f o)
not_told f o e = rw e refl

pub last_is : (a : Answer) (text allow close : List ℕ) (closes : Bool) → allow ≡ allow_line a.allow
    → close ≡ close_line closes
    → (((text ++ codes "\r\n") ++ allow) ++ close) ++ codes "\r\n" ≡ text ++ last_lines a closes
unfolding last_lines
last_is a text allow close closes e f =
    rw (e, f) (four text (codes "\r\n") (allow_line a.allow) (close_line closes) (codes "\r\n"))
  where
    four : (t q a l r : List ℕ) → (((t ++ q) ++ a) ++ l) ++ r ≡ t ++ (q ++ a ++ l ++ r)
    four t q a l r = simp append_assoc

-- ---- answers that say no more than their code

abbrev pub bare_of : ℕ → List ℕ → Answer
bare_of code body = record { code = code; media = codes "text/plain"; allow = None; body = body }

pub bad_request : bare_of 400 (codes "400 Bad Request\n") ≡ bare 400
unfolding status_words
bad_request = refl

-- one text in place of another
pub told_text : {w w' : Option (List ℕ)} {v v' : Option (List WriteCall)} {x y : List ℕ}
    (r : Result (Unit {0}) ServeFault) → x ≡ y → IsWrittenTo w w' x r → OnErr r (IsErrOf r Write)
    → SendsAs r v v' → IsSentAs w w' v v' y r
told_text {w = w} {w' = w'} r e t fault ends = record
    { written = subst (λ (z : List ℕ). IsWrittenTo w w' z r) e t; fault = fault; ends = ends }
