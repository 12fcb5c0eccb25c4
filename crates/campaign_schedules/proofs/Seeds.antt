-- The words of the random generator one by one, and the text of their schedule.
use Rattle.std.proofs.Common.{ℕ, zero, suc, ◌+◌, ◌*◌, ◌<◌, ◌≤◌, ◌≡◌, List, [], ◌∷◌, ◌++◌, Bool, true, false, ◌==◌, ◌/◌, ◌%◌, map, length, refl, sym, ap, ◌∙◌, arith, append_assoc, append-nil, length-append, Ok}
use Rattle.std.specs.Prelude.{decimal}
use Rattle.std.specs.List.{AllByRecursion, flat_map}
use Rattle.std.proofs.lemmas.Fmt.{length-decimal-le_succ}
use Rattle.rand_chacha.specs.ChaCha.{ChaCha, next_word, of_seed}
use Rattle.rand_core.specs.Pcg32Seed.{pcg32_seed}
use Rattle.world.specs.declared.schedule.Repeat.{Repeat}
use Rattle.campaign_orders.specs.Text.{entry_text, line_text, schedule_text}
use Rattle.campaign_schedules.specs.Reading.{IsEntry, SchedulesAreRead}
use Rattle.trace.specs.Schedules.{schedule_told}
use Rattle.campaign_schedules.specs.Seeded.{after, entry_of, lines_from, more_times, seeded, words}

-- States that n entries of a line have been made, and which entries remain.
pub record IsOnLine (start g : ChaCha) (n : ℕ) (made : List Repeat) : Type 0 where
  pub left : ℕ
  pub count : n + left ≡ 128
  pub entries : made ++ map entry_of (words left g) ≡ map entry_of (words 128 start)
  pub after : after left g ≡ after 128 start

pub line_begins_with : (g : ChaCha) (made : List Repeat) → made ≡ [] → IsOnLine g g 0 made
line_begins_with g made none = record { left = 128; count = refl; entries = ap (λ (l : List Repeat). l ++ map entry_of (words 128 g)) none; after = refl }

pub line_goes_on : (start g h : ChaCha) (word n : ℕ) (made new : List Repeat) → IsOnLine start g n made → n < 128 → (word, h) ≡ next_word 4 g
    → new ≡ made ++ entry_of word ∷ [] → IsOnLine start h (n + 1) new
line_goes_on start g h word n made new on less is pushed = go on.left on.count on.entries on.after
  where
    go : (left : ℕ) → n + left ≡ 128 → made ++ map entry_of (words left g) ≡ map entry_of (words 128 start) → after left g ≡ after 128 start → IsOnLine start h (n + 1) new
    go zero count entries later = absurd (omega (arith, count, less))
    go (suc left) count entries later =
        let w : (next_word 4 g).0 ≡ word = ap (λ (p : ℕ × ChaCha). p.0) (sym is) in
        let v : (next_word 4 g).1 ≡ h = ap (λ (p : ℕ × ChaCha). p.1) (sym is) in
        record {
          left = left;
          count = (let c = count in omega arith);
          entries = ap (λ (l : List Repeat). l ++ map entry_of (words left h)) pushed
              ∙ (append_assoc made (entry_of word ∷ []) (map entry_of (words left h))
              ∙ ((λ i. made ++ entry_of (sym w i) ∷ map entry_of (words left (sym v i))) ∙ entries));
          after = (λ i. Rattle.campaign_schedules.specs.Seeded.after left (sym v i)) ∙ later;
        }

pub line_ends : (start g : ChaCha) (n : ℕ) (made : List Repeat) → IsOnLine start g n made → 128 ≤ n
    → (made ≡ map entry_of (words 128 start)) × (g ≡ after 128 start)
line_ends start g n made on all = go on.left on.count on.entries on.after
  where
    go : (left : ℕ) → n + left ≡ 128 → made ++ map entry_of (words left g) ≡ map entry_of (words 128 start) → after left g ≡ after 128 start
        → (made ≡ map entry_of (words 128 start)) × (g ≡ after 128 start)
    go zero count entries later = (sym (append-nil made) ∙ entries, later)
    go (suc left) count entries later = absurd (omega (arith, count, all))

-- States that n lines have been made, and which lines remain.
pub record IsOnLines (start g : ChaCha) (n : ℕ) (made : List (List Repeat)) : Type 0 where
  pub left : ℕ
  pub count : n + left ≡ 5
  pub lines : made ++ lines_from left g ≡ lines_from 5 start

pub lines_begin_with : (start g : ChaCha) (made : List (List Repeat)) → g ≡ start → made ≡ [] → IsOnLines start g 0 made
lines_begin_with start g made is none = record { left = 5; count = refl; lines = (λ i. none i ++ lines_from 5 (is i)) }

pub lines_go_on : (start g h : ChaCha) (n : ℕ) (line : List Repeat) (made new : List (List Repeat)) → IsOnLines start g n made → n < 5
    → line ≡ map entry_of (words 128 g) → h ≡ after 128 g → new ≡ made ++ line ∷ [] → IsOnLines start h (n + 1) new
lines_go_on start g h n line made new on less is later pushed = go on.left on.count on.lines
  where
    go : (left : ℕ) → n + left ≡ 5 → made ++ lines_from left g ≡ lines_from 5 start → IsOnLines start h (n + 1) new
    go zero count lines = absurd (omega (arith, count, less))
    go (suc left) count lines = record {
      left = left;
      count = (let c = count in omega arith);
      lines = ap (λ (l : List (List Repeat)). l ++ lines_from left h) pushed
          ∙ (append_assoc made (line ∷ []) (lines_from left h) ∙ ((λ i. made ++ is i ∷ lines_from left (later i)) ∙ lines));
    }

pub lines_end : (start g : ChaCha) (n : ℕ) (made : List (List Repeat)) → IsOnLines start g n made → 5 ≤ n → made ≡ lines_from 5 start
lines_end start g n made on all = go on.left on.count on.lines
  where
    go : (left : ℕ) → n + left ≡ 5 → made ++ lines_from left g ≡ lines_from 5 start → made ≡ lines_from 5 start
    go zero count lines = sym (append-nil made) ∙ lines
    go (suc left) count lines = absurd (omega (arith, count, all))

pub seeded_by : (seed : ℕ) (start : ChaCha) (made : List (List Repeat)) → start ≡ of_seed (pcg32_seed 32 seed) → made ≡ lines_from 5 start → made ≡ seeded seed
unfolding seeded
seeded_by seed start made is lines = lines ∙ ap (lines_from 5) is

-- ---- each entry is valid, and the text is short enough

more_few : (long : Bool) (x : ℕ) → more_times long x ≤ 255
more_few true x = omega arith
more_few false x = omega arith

is_entry : (word : ℕ) → IsEntry (entry_of word)
is_entry word = (let few = more_few (word / 4096 % 2 == 1) (word / 65536) in record { general = omega arith; least = omega arith; most = omega arith })

are_entries : (ws : List ℕ) → AllByRecursion IsEntry (map entry_of ws)
are_entries [] = tt
are_entries (w ∷ ws) = (is_entry w, are_entries ws)

lines_are : (n : ℕ) (g : ChaCha) → AllByRecursion (AllByRecursion IsEntry) (lines_from n g)
lines_are zero g = tt
lines_are (suc n) g = (are_entries (words 128 g), lines_are n (after 128 g))

pair_short : (word : ℕ) → length (decimal (entry_of word).general ++ (42 ∷ []) ++ decimal (entry_of word).times) ≤ 271
pair_short word =
    let g : ℕ = word % 13 in
    let t : ℕ = more_times (word / 4096 % 2 == 1) (word / 65536) + 1 in
    let few : t ≤ 256 = (let h = more_few (word / 4096 % 2 == 1) (word / 65536) in omega arith) in
    let a : length (decimal g) ≤ g + 1 = length-decimal-le_succ g (omega arith) in
    let b : length (decimal t) ≤ t + 1 = length-decimal-le_succ t (omega arith) in
    let c = length-append (decimal g ++ (42 ∷ [])) (decimal t) in
    let d = length-append (decimal g) (42 ∷ []) in
    omega arith

entry_short : (word : ℕ) → length (entry_text (entry_of word)) ≤ 272
entry_short word =
    let g : ℕ = word % 13 in
    let t : ℕ = more_times (word / 4096 % 2 == 1) (word / 65536) + 1 in
    let few : t ≤ 256 = (let h = more_few (word / 4096 % 2 == 1) (word / 65536) in omega arith) in
    let a : length (decimal g) ≤ g + 1 = length-decimal-le_succ g (omega arith) in
    let b : length (decimal t) ≤ t + 1 = length-decimal-le_succ t (omega arith) in
    let c = length-append ((32 ∷ []) ++ decimal g ++ (42 ∷ [])) (decimal t) in
    let d = length-append ((32 ∷ []) ++ decimal g) (42 ∷ []) in
    omega arith

entries_short : (ws : List ℕ) → length (flat_map entry_text (map entry_of ws)) ≤ 272 * length ws
entries_short [] = omega arith
entries_short (w ∷ ws) =
    let one = entry_short w in
    let more = entries_short ws in
    let c = length-append (entry_text (entry_of w)) (flat_map entry_text (map entry_of ws)) in
    omega arith

words_count : (n : ℕ) (g : ChaCha) → length (words n g) ≡ n
words_count zero g = refl
words_count (suc n) g = ap suc (words_count n (next_word 4 g).1)

line_short : (ws : List ℕ) → length (line_text (map entry_of ws)) ≤ 272 * length ws + 1
line_short [] = omega arith
line_short (w ∷ ws) =
    let p : List ℕ = decimal (entry_of w).general ++ (42 ∷ []) ++ decimal (entry_of w).times in
    let F : List ℕ = flat_map entry_text (map entry_of ws) in
    let one = pair_short w in
    let more = entries_short ws in
    let c = length-append (p ++ F) (10 ∷ []) in
    let d = length-append p F in
    omega arith

lines_short : (n : ℕ) (g : ChaCha) → length (schedule_text (lines_from n g)) ≤ 34817 * n
lines_short zero g = omega arith
lines_short (suc n) g =
    let one = line_short (words 128 g) in
    let count = words_count 128 g in
    let more = lines_short n (after 128 g) in
    let c = length-append (line_text (map entry_of (words 128 g))) (schedule_text (lines_from n (after 128 g))) in
    omega arith

lines_count : (n : ℕ) (g : ChaCha) → length (lines_from n g) ≡ n
lines_count zero g = refl
lines_count (suc n) g = ap suc (lines_count n (after 128 g))

pub seeds_are_read : SchedulesAreRead → (seed : ℕ) (text : List ℕ) → text ≡ schedule_text (seeded seed) → schedule_told text ≡ Ok (seeded seed)
unfolding seeded
seeds_are_read read seed text is =
    let g : ChaCha = of_seed (pcg32_seed 32 seed) in
    let five : length (lines_from 5 g) ≤ 5 = (let e = lines_count 5 g in omega arith) in
    let short : length (schedule_text (lines_from 5 g)) ≤ 1048576 = (let e = lines_short 5 g in omega arith) in
    ap schedule_told is ∙ read (lines_from 5 g) (lines_are 5 g) five short
