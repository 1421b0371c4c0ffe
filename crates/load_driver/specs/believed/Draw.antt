-- The words of a seed, and the number that a word draws.
use Rattle.std.specs.Prelude.{ℕ, zero, suc, ◌^◌}
use Rattle.rand_core.specs.Pcg32Seed.{pcg32_seed}
use Rattle.rand_core.specs.Steps.{steps_u32, stream_of}
use Rattle.rand_core.specs.Stream.{next_u64}
use Rattle.rand_pcg.specs.Lcg.{Lcg}
use Rattle.rand_pcg.specs.Pcg.{pcg32, pcg32_of_seed, pcg64, pcg64_of_seed}
use Rattle.rand.specs.Uniform.{canon}

-- the number below a bound that is drawn by the small generator that is made of a word
unfoldable pub draw : ℕ → ℕ → ℕ
draw word bound = (canon (2 ^ 64) next_u64 bound
    (stream_of (steps_u32 pcg32) (pcg32_of_seed (pcg32_seed 16 word)))).0

-- the generator of the words of a seed
unfoldable pub generator : ℕ → Lcg
generator seed = pcg64_of_seed (pcg32_seed 32 seed)

-- the generator of a seed after k words
unfoldable pub words_after : ℕ → ℕ → Lcg
words_after seed zero = generator seed
words_after seed (suc k) = (pcg64 (words_after seed k)).1

-- word k of a seed, from 0 on
unfoldable pub word : ℕ → ℕ → ℕ
word seed k = (pcg64 (words_after seed k)).0
