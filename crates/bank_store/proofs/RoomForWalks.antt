-- A walk over rows of few bytes fits in memory.
use Rattle.std.proofs.Common.{◌<◌, ◌+◌, ◌*◌, ◌-◌, ◌%◌, ◌^◌, ℕ, arith, lit<}
use Prim.Native.Nat.{max}
use Rattle.std.proofs.Math.Nat.{mod-le}
use Rattle.walked_rows.specs.declared.ahead.TheConstants.{AHEAD}
use Rattle.bank_store.specs.Room.{TakesFewBytes}
use prog.Memory.{align, size, up}
use denote.Param.{layout}
use denote.RattleType.{RattleType}

-- what is put at a multiple of k lies at most k after
put_at : (k : ℕ) {e most : ℕ} → k < 2 ^ 9 → e < most → up k e < most + 2 ^ 9
put_at k {e} {most} small low =
    let pad = mod-le (k - e % k) k in
    omega (arith, small, low, pad)

with_more : (m : ℕ) {n most : ℕ} → n < most → n + m < most + m
with_more m {n} {most} low = omega (arith, low)

one_and_other : {n m most others : ℕ} → n < most → m < others → n + m < most + others
one_and_other {n} {m} {most} {others} one other = omega (arith, one, other)

less_still : {n most : ℕ} → n < most → most < 2 ^ 63 → n < 2 ^ 63
less_still {n} {most} low fits = omega (arith, low, fits)

-- how many bytes a walk takes, its fields one after another, where a row takes so many at multiples of a
abbrev pub walk_size : ℕ → ℕ → ℕ
walk_size a bytes =
    up (max 8 (max 8 (max (max (max a 1) 8) 8)))
    (up 1 (up 8 (up 8 (up (max (max a 1) 8) 24 + up (max (max a 1) 8)
    (up 1 (up 8 (up (max a 1) 0 + up (max a 1) (up a 0 + AHEAD * bytes)) + 8) + 0)) + 8) + 16) + 1)

pub walk_fits : (R : RattleType) → TakesFewBytes R → walk_size (align (layout R)) (size (layout R)) < 2 ^ 63
walk_fits R few = fits (align (layout R)) (size (layout R)) few.0 few.1
  where
    fits : (a bytes : ℕ) → a < 2 ^ 8 → bytes < 2 ^ 16 → walk_size a bytes < 2 ^ 63
    fits a bytes low few =
        let all : AHEAD * bytes < AHEAD * 2 ^ 16 = omega (arith, few) in
        let own : a < 2 ^ 9 = omega (arith, low) in
        let array : max a 1 < 2 ^ 9 = omega (arith, low) in
        let vector : max (max a 1) 8 < 2 ^ 9 = omega (arith, low) in
        let walk : max 8 (max 8 (max (max (max a 1) 8) 8)) < 2 ^ 9 = omega (arith, low) in
        let zero : 0 < 1 = lit< tt in
        let rows = put_at (max a 1) array (one_and_other (put_at a own zero) all) in
        let room = with_more 8 (put_at 8 (lit< tt) (one_and_other (put_at (max a 1) array zero) rows)) in
        let ahead = put_at (max (max a 1) 8) vector (with_more 0 (put_at 1 (lit< tt) room)) in
        let before : 24 < 25 = lit< tt in
        let given = with_more 8 (put_at 8 (lit< tt) (one_and_other (put_at (max (max a 1) 8) vector before) ahead)) in
        let rest = with_more 16 (put_at 8 (lit< tt) given) in
        less_still (put_at _ walk (with_more 1 (put_at 1 (lit< tt) rest))) (lit< tt)
