-- No reply waits for the next read.
use Rattle.std.proofs.Common.{◌≡◌, ◌≤◌, ◌<◌, ◌*◌, ◌/◌, ℕ, true, false, leb, List, [], ◌∷◌, ◌++◌, length}
use Rattle.std.proofs.Common.{get_or, Option, refl, sym, ap, subst, ◌∙◌, arith, inl, inr, ◌⊎◌}
use Rattle.std.specs.Io.KnownBytes.{Appends}
use Rattle.std.proofs.lemmas.Bool.Decides.{leb_tells}
use Rattle.std.proofs.lemmas.List.{get_or_append_left, get_or_push, length-append, take_all, take-append-le}
use Rattle.posting_core.specs.Stream.{RepliesBeforeReads, given, read_by}
use Rattle.posting_core.specs.believed.EndCalls.{GrowsBy, ReadCall}
use Rattle.posting_core.specs.EndCalls.{Beside, HoldsFlushed, IsThrough, WriteCall, unknown}
use Rattle.posting_core.proofs.Telling.{adds-more, adds-none}

-- at first no read was made
pub prompt_first : (b : Option (List Beside)) (w : Option (List ℕ)) (t : Option (List WriteCall))
    (written : List ℕ) → RepliesBeforeReads b b w t [] written
prompt_first b w t written = record {
  sinks = [];
  made = adds-none b;
  each = refl;
  replied = λ n lt. absurd (omega arith);
}

-- what was held is held, where more was written since
holds_more : {w : Option (List ℕ)} {t : Option (List WriteCall)} (written more : List ℕ) (k k' : ℕ)
    (sink sink' : Beside) → HoldsFlushed w t written k sink → k' ≡ k → sink' ≡ sink
    → HoldsFlushed w t (written ++ more) k' sink'
holds_more {w = w} {t = t} written more k k' sink sink' h e f =
    let held : HoldsFlushed w t (written ++ more) k sink = record {
      there = omega (arith, h.there, length-append written more);
      wrote = subst (λ (xs : List ℕ). Appends w sink.contents xs)
          (sym (take-append-le k written more h.there)) h.wrote;
      through = h.through;
    } in
    subst (λ (j : ℕ). HoldsFlushed w t (written ++ more) j sink') (sym e)
    (subst (λ (s : Beside). HoldsFlushed w t (written ++ more) k s) (sym f) held)

-- more was written
pub prompt_written : {b b' : Option (List Beside)} {w : Option (List ℕ)} {t : Option (List WriteCall)}
    {reads : List ReadCall} (written more : List ℕ) → RepliesBeforeReads b b' w t reads written
    → RepliesBeforeReads b b' w t reads (written ++ more)
prompt_written written more p = record {
  sinks = p.sinks;
  made = p.made;
  each = p.each;
  replied = λ n lt. holds_more written more _ _ _ _ (p.replied n lt) refl refl;
}

-- all of it is held
holds_all : (w : Option (List ℕ)) (t : Option (List WriteCall)) (written : List ℕ) (k : ℕ) (sink : Beside)
    → length written ≡ k → Appends w sink.contents written → IsThrough t sink.calls
    → HoldsFlushed w t written k sink
holds_all w t written k sink is wrote through = record {
  there = omega arith;
  wrote = subst (λ (xs : List ℕ). Appends w sink.contents xs)
      (sym (take_all k written (omega arith))) wrote;
  through = through;
}

-- one read more was made, beside a sink that held all replies
pub prompt_read : {b b' b'' : Option (List Beside)} {w : Option (List ℕ)} {t : Option (List WriteCall)}
    (reads : List ReadCall) (written : List ℕ) (x : ReadCall) (sink : Beside) (count : ℕ)
    → RepliesBeforeReads b b' w t reads written → GrowsBy b' b'' (sink ∷ [])
    → read_by (length reads) reads ≡ count → length written ≡ 200 * count
    → Appends w sink.contents written → IsThrough t sink.calls
    → RepliesBeforeReads b b'' w t (reads ++ x ∷ []) written
prompt_read {b = b} {b' = b'} {b'' = b''} {w = w} {t = t} reads written x sink count p made all long wrote
    through = record {
      sinks = p.sinks ++ sink ∷ [];
      made = adds-more b b' b'' p.sinks (sink ∷ []) p.made made;
      each = omega (arith, length-append p.sinks (sink ∷ []), length-append reads (x ∷ []), p.each);
      replied = λ n lt. at n (leb_tells (length reads) n) (omega (arith, lt, length-append reads (x ∷ [])));
    }
  where
    so_far : (n : ℕ) → n ≤ length reads → read_by n (reads ++ x ∷ []) ≡ read_by n reads
    so_far n le = ap (λ (r : List ReadCall). given r / 100) (take-append-le n reads (x ∷ []) le)

    at : (n : ℕ) → ((leb (length reads) n ≡ true) × (length reads ≤ n))
        ⊎ ((leb (length reads) n ≡ false) × (n < length reads)) → n ≤ length reads
        → HoldsFlushed w t written (200 * read_by n (reads ++ x ∷ [])) (get_or (p.sinks ++ sink ∷ []) n unknown)
    at n (inl last) le =
        let is : n ≡ length reads = omega (arith, last.1) in
        let count_is : read_by n (reads ++ x ∷ []) ≡ count =
        so_far n le ∙ ap (λ (k : ℕ). read_by k reads) is ∙ all in
        subst (λ (s : Beside). HoldsFlushed w t written (200 * read_by n (reads ++ x ∷ [])) s)
        (sym (get_or_push p.sinks sink unknown n (p.each ∙ sym is)))
        (holds_all w t written (200 * read_by n (reads ++ x ∷ [])) sink
        (long ∙ ap (λ (k : ℕ). 200 * k) (sym count_is)) wrote through)
    at n (inr before) le =
        subst (λ (s : Beside). HoldsFlushed w t written (200 * read_by n (reads ++ x ∷ [])) s)
        (sym (get_or_append_left p.sinks (sink ∷ []) unknown n (omega (arith, before.1, p.each))))
        (subst (λ (k : ℕ). HoldsFlushed w t written (200 * k) (get_or p.sinks n unknown)) (sym (so_far n le))
        (p.replied n before.1))
