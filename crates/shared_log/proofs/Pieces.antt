-- A body that comes piece by piece.
use Rattle.std.proofs.Common.{◌≡◌, ◌++◌, ℕ, List, [], drop, sym, subst, append-nil, append_assoc}
use Rattle.http1.proofs.OneParse.{body_from_completes}
use Rattle.http1.specs.Body.{Body, ReadsBody, body_of}
use Rattle.http1.specs.Decoder.{Completes, Continues, Ends, decoder_for, with_front}
use Rattle.http1.specs.declared.conn.Limits.{Limits}
use Rattle.http1.specs.declared.decode.Decoder.{Decoder}
use Rattle.http1.specs.declared.framing.Framing.{Framing}
use Rattle.httparse.specs.declared.spans.HeaderSpan.{HeaderSpan}

-- what completes a decoder completes the first one, with the pieces before it
abbrev pub Goes : (first now : Decoder) (all left pieces : List ℕ) → Type 0
Goes first now all left pieces = (b : Body) (q : List ℕ) → Completes now left b q
    → Completes first all (with_front pieces b) q

pub goes_first : (d : Decoder) (all : List ℕ) → Goes d d all all []
goes_first d all b q it = it

pub goes_on : (first now next : Decoder) (all left pieces : List ℕ) (len : ℕ) (piece : List ℕ)
    → Goes first now all left pieces → Continues now left next len piece
    → Goes first next all (drop len left) (pieces ++ piece)
goes_on first now next all left pieces len piece goes step b q it =
    let moved : Completes next (drop len left ++ []) b q =
    subst (λ (l : List ℕ). Completes next l b q) (sym (append-nil (drop len left))) it in
    let back : Completes now left (with_front piece b) q =
    subst (λ (l : List ℕ). Completes now l (with_front piece b) q) (append-nil left) (step.back [] b q moved) in
    subst (λ (l : List ℕ). Completes first all (record b { bytes = l }) q) (sym (append_assoc pieces piece b.bytes))
    (goes (with_front piece b) q back)

pub ends : (limits : Limits) (framing : Framing) (now : Decoder) (all left pieces : List ℕ) (spans : List HeaderSpan)
    (len count : ℕ) → Goes (decoder_for limits framing) now all left pieces → (it : Ends now left spans len count)
    → drop len left ≡ [] → ReadsBody limits framing all (body_of pieces it.trailers) []
ends limits framing now all left pieces spans len count goes it none =
    let whole : Completes now left (body_of [] it.trailers) (drop len left) =
    subst (λ (l : List ℕ). Completes now l (body_of [] it.trailers) (drop len left)) (append-nil left)
    (subst (λ (l : List ℕ). Completes now (left ++ []) (body_of [] it.trailers) l) (append-nil (drop len left))
    (it.completes [])) in
    let all_of_it : Completes (decoder_for limits framing) all (body_of pieces it.trailers) [] =
    subst (λ (l : List ℕ). Completes (decoder_for limits framing) all (body_of l it.trailers) []) (append-nil pieces)
    (subst (λ (l : List ℕ). Completes (decoder_for limits framing) all (with_front pieces (body_of [] it.trailers)) l) none
    (goes (body_of [] it.trailers) (drop len left) whole)) in
    body_from_completes limits framing all (body_of pieces it.trailers) [] all_of_it
