-- Texts that are written piece by piece.
use Rattle.std.proofs.Common.{◌≡◌, ℕ, List, ◌++◌, append_assoc}

pub one_by_one : (a b c d e f g h i j k : List ℕ)
    → a ++ (b ++ (c ++ (d ++ (e ++ (f ++ (g ++ (h ++ (i ++ (j ++ k)))))))))
    ≡ a ++ b ++ c ++ d ++ e ++ f ++ g ++ h ++ i ++ j ++ k
one_by_one a b c d e f g h i j k = simp append_assoc

-- a text by itself, and five others below what they are
pub eleven : (p a r h b i c j d k e : List ℕ)
    → p ++ (a ++ (r ++ (h ++ (b ++ (i ++ (c ++ (j ++ (d ++ (k ++ e)))))))))
    ≡ (p ++ a) ++ r ++ (h ++ b) ++ (i ++ c) ++ (j ++ d) ++ (k ++ e)
eleven p a r h b i c j d k e = simp append_assoc
