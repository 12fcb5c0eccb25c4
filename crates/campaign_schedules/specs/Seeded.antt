-- The random schedule that a seed gives (own).
use Rattle.std.specs.Prelude.{ℕ, zero, suc, ◌==◌, ◌+◌, ◌/◌, ◌%◌, Bool, true, false, List, [], ◌∷◌, map}
use Rattle.rand_chacha.specs.ChaCha.{ChaCha, next_word, of_seed}
use Rattle.rand_core.specs.Pcg32Seed.{pcg32_seed}
use Rattle.world.specs.declared.schedule.Repeat.{Repeat}

-- Returns the next n words of the random generator ChaCha8.
abbrev pub words : ℕ → ChaCha → List ℕ
words zero generator = []
words (suc n) generator = (next_word 4 generator).0 ∷ words n (next_word 4 generator).1

-- Returns the generator after it has given n words.
abbrev pub after : ℕ → ChaCha → ChaCha
after zero generator = generator
after (suc n) generator = after n (next_word 4 generator).1

-- Returns how many turns after the first an entry gives: x modulo 256 if the entry is long, else x modulo 4. So
-- programs run in turn for few and for many steps.
abbrev pub more_times : Bool → ℕ → ℕ
more_times true x = x % 256
more_times false x = x % 4

-- Returns the schedule entry that a word of the generator means: a general from 0 to 12, with 1 to 256 turns.
abbrev pub entry_of : ℕ → Repeat
entry_of word = record { general = word % 13; times = more_times (word / 4096 % 2 == 1) (word / 65536) + 1 }

-- Returns n schedule lines of 128 entries each.
abbrev pub lines_from : ℕ → ChaCha → List (List Repeat)
lines_from zero generator = []
lines_from (suc n) generator = map entry_of (words 128 generator) ∷ lines_from n (after 128 generator)

-- Returns the random schedule of a seed, which has five lines of 128 entries.
unfoldable pub seeded : ℕ → List (List Repeat)
seeded seed = lines_from 5 (of_seed (pcg32_seed 32 seed))
