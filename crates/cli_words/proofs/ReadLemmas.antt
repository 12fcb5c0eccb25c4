-- `clap` accepts the words of a subcommand exactly if the definitions do, and parses the same values.
use Rattle.std.proofs.Common.{◌≡◌, ◌∙◌, ◌==◌, ◌++◌, ◌&&◌, ◌||◌, ◌<◌, ◌≤◌, ◌+◌, arith, Bool, cond, true, false, List, ℕ, [], ◌∷◌, Option, Some, None, ap, append-nil, codes, find, is_some, min, nat_lt, refl, subst, sym}
use Rattle.std.proofs.lemmas.Bool.{ltb-true}
use Rattle.std.specs.Option.{option_map_or}
use Rattle.std.specs.Prelude.{option_and_then}
use Rattle.std.specs.Str.{bytes_eq}
use Rattle.clap.specs.Kinds.{Kinds, or_else}
use Rattle.clap.specs.Lexer.{usize_max}
use Rattle.clap.specs.Walk.{Held, Row, Rule, Text, Waiting, Walk, after_flag, after_step, arg_by_id, arg_by_index, arg_by_long, arg_by_short, attached_value, has_row, is_pending, option_met, positional_held, pushed, reading_by, settled, to_positional, used, used_by_id, walked, with_values, without}
use Rattle.clap.specs.Walk as clap
use Rattle.clap.specs.Faults.{long_fault, option_fault, positional_fault, settle_fault, step_fault, stray_fault, turn_fault, use_fault}
use Rattle.clap.specs.declared.parser.matches.ValueSource.TheVariants.{CommandLine}
use Rattle.cli_words.specs.Usage.{Flag, Look, Next, State, anything, end_of_flags, flag_met, is_long, is_short, letter, long, look_of, met_at_end, met_once, option, placed_in, plain, read_from, read_on, short, switch, value_at, value_of, valued, only_places}
use Rattle.cli_words.proofs.FlagLemmas.{none_long_fails, none_short_fails}
use Rattle.cli_words.proofs.LevelLemmas.{AgreesFrom, Holds, ended, level_from, now, s, stepped, stuck_dashes, stuck_end, stuck_idle, stuck_long, stuck_short, turn_stops}
use Rattle.cli_words.proofs.PlaceLemmas.{AllApart, AllFree, Places, flag_apart, place_apart, places_more, places_next}
use Rattle.cli_words.proofs.RowLemmas.{Met, Stands, first_use, lacks, row_stands, stands_more}
use Rattle.cli_words.proofs.RuleLemmas.{Among, at_place, by_long, by_short, find_among, ids, is_distinct, name_of, named, no_place, past, past_next, past_within, place_after, place_named, place_taker, rule_or_help, same_text, switch_rule, takers, valued_rule}
use Rattle.cli_words.proofs.WordLemmas.{Fails, Looks, dashes_pass, fails_as, held, long_fails, long_turn, looks, plain_turn, short_fails, short_turn, walk_in}

abbrev Pending : Type 0
Pending = Option (Text × List Text)

-- ---- one use of an argument with one value, and of a switch

module _ (name : Text) (long : Option Text) (short index : Option ℕ) (required : Bool) (rows : List Row) (value : Text) where
  abbrev taker : Rule
  taker = valued_rule name long short index required

  use_new : has_row name rows ≡ false → use_fault false taker (value ∷ []) rows ≡ []
  use_new new = rw new refl

  use_again : has_row name rows ≡ true → Fails (use_fault false taker (value ∷ []) rows)
  use_again there = rw there (λ e. cc)

use_none : (name : Text) (l : Option Text) (c index : Option ℕ) (required : Bool) (rows : List Row) → Fails (use_fault false (valued_rule name l c index required) [] rows)
use_none name l c index required rows = λ e. cc

switch_new : (name : Text) (rows : List Row) → has_row name rows ≡ false → use_fault false (switch_rule name) [] rows ≡ []
switch_new name rows new = rw new refl

switch_again : (name : Text) (rows : List Row) → has_row name rows ≡ true → Fails (use_fault false (switch_rule name) [] rows)
switch_again name rows there = rw there (λ e. cc)

and_false : {X : Type 0} (b : Bool) (x y : X) → cond (b && false) x y ≡ y
and_false true x y = refl
and_false false x y = refl

or_nothing : (k : Kinds) → Fails k → Fails (or_else k [])
or_nothing [] fails = fails
or_nothing (x ∷ xs) fails = λ e. cc

or_false : (b : Bool) → (b || false) ≡ b
or_false true = refl
or_false false = refl

module _ (own : Text) (ps : List Text) (fs : List Flag) (distinct : is_distinct (ids ps fs) ≡ true) (few : nat_lt (past 1 ps) usize_max ≡ true) where
  abbrev R : List Rule
  R = takers 1 ps fs

  abbrev state : List Text → Met → Next → State
  state left met next = record { left = left; met = met; next = next }

  -- The values from the remaining words.
  abbrev told_from : State → List Text → Option Met
  told_from st words = option_and_then (λ st. met_at_end st.left st.next st.met) (read_from fs st words)

  abbrev told_then : Option State → List Text → Option Met
  told_then st words = option_and_then (λ st. met_at_end st.left st.next st.met) (option_and_then (λ st. read_from fs st words) st)

  abbrev Answers : Walk → List Text → Option Met → Type 0
  Answers = AgreesFrom own ps fs

  abbrev Holding : List Row → Pending → List Text → List Text → Met → Type 0
  Holding = Holds own ps fs

  -- The state of `clap` between two words, before `--` and after it.
  abbrev there : Bool → ℕ → List Row → Pending → Walk
  there behind position rows pending =
      record { held = held rows pending; waiting = clap.idle; position = position; is_trailing = behind; stopped = None }

  abbrev next_of : Bool → Next
  next_of true = only_places
  next_of false = anything

  -- The remaining words are parsed as in the definitions, in whatever state `clap` is.
  abbrev GoesOn : Bool → List Text → Type 0
  GoesOn behind rest = (rows : List Row) (pending : Pending) (gone left : List Text) (met : Met) → Holding rows pending gone left met
      → Answers (there behind (past 1 gone) rows pending) rest (told_from (state left met (next_of behind)) rest)

  -- An option or a place, by the rule for its name.
  record IsValued (name : Text) : Type 0 where
    long : Option Text
    short : Option ℕ
    index : Option ℕ
    required : Bool
    found_is : arg_by_id R name ≡ Some (valued_rule name long short index required)

  abbrev rule_by : (name : Text) → IsValued name → Rule
  rule_by name is = valued_rule name is.long is.short is.index is.required

  abbrev OptionWaits : List Text → Type 0
  OptionWaits rest = (name : Text) → IsValued name → ((gone left : List Text) → gone ++ left ≡ ps → AllApart name left)
      → (rows : List Row) (gone left : List Text) (met : Met) → Stands rows met → Places ps gone left met
      → Answers (walk_in (past 1 gone) (clap.option name) (held rows (Some (name, [])))) rest (told_from (state left met (value_of name)) rest)

  new_row : (rows : List Row) (met : Met) → Stands rows met → (name : Text) → value_at name met ≡ None → has_row name rows ≡ false
  new_row rows met stands name none = row_stands rows met stands name ∙ ap (λ (o : Option Text). is_some o) none

  old_row : (rows : List Row) (met : Met) → Stands rows met → (name value : Text) → value_at name met ≡ Some value → has_row name rows ≡ true
  old_row rows met stands name value some = row_stands rows met stands name ∙ ap (λ (o : Option Text). is_some o) some

  -- ---- a pending value that must be stored

  module _ (name : Text) (is : IsValued name) (rows : List Row) where
    settle_is : (values : List Text) → settle_fault R false (held rows (Some (name, values))) ≡ use_fault false (rule_by name is) values rows
    settle_is values = ap (λ (o : Option Rule). option_map_or (λ a. use_fault false a values rows) o []) is.found_is

    module _ (value : Text) (met : Met) (stands : Stands rows met) where
      pending_good : value_at name met ≡ None → settle_fault R false (held rows (Some (name, value ∷ []))) ≡ []
      pending_good none = settle_is (value ∷ []) ∙ use_new name is.long is.short is.index is.required rows value (new_row rows met stands name none)

      pending_bad : (old : Text) → value_at name met ≡ Some old → Fails (settle_fault R false (held rows (Some (name, value ∷ []))))
      pending_bad old some = fails_as (settle_is (value ∷ [])) (use_again name is.long is.short is.index is.required rows value (old_row rows met stands name old some))

      pending_stands : value_at name met ≡ None → Stands (now own ps fs rows (Some (name, value ∷ []))) (met ++ (name, value) ∷ [])
      pending_stands none = subst (λ (rs : List Row). Stands rs (met ++ (name, value) ∷ []))
          (sym (ap (λ (o : Option Rule). used_by_id o (value ∷ []) rows) is.found_is ∙ first_use name (reading_by (rule_by name is)) (value ∷ []) rows (lacks rows met stands name none)))
          (stands_more rows met (reading_by (rule_by name is)) name value stands)

  -- ---- a word for the next place

  place_is : (gone : List Text) (p : Text) (left : List Text) → gone ++ p ∷ left ≡ ps → IsValued p
  place_is gone p left split = record {
    long = None;
    short = None;
    index = Some (past 1 gone);
    required = true;
    found_is = subst (λ (qs : List Text). is_distinct (ids qs fs) ≡ true → arg_by_id (takers 1 qs fs) p ≡ Some (place_taker (past 1 gone) p)) split
        (place_named 1 gone p left fs) distinct;
  }

  place_at : (gone : List Text) (p : Text) (left : List Text) → gone ++ p ∷ left ≡ ps → arg_by_index R (past 1 gone) ≡ Some (place_taker (past 1 gone) p)
  place_at gone p left split = subst (λ (qs : List Text). arg_by_index (takers 1 qs fs) (past 1 gone) ≡ Some (place_taker (past 1 gone) p)) split (at_place 1 gone p left fs)

  place_off : (gone : List Text) (p : Text) (left : List Text) → gone ++ p ∷ left ≡ ps → AllApart p left
  place_off gone p left split = subst (λ (qs : List Text). is_distinct (ids qs fs) ≡ true → AllApart p left) split
      (λ d. place_apart gone p left fs d) distinct

  no_place_at : (gone : List Text) → gone ++ [] ≡ ps → arg_by_index R (past 1 gone) ≡ None
  no_place_at gone split = subst (λ (qs : List Text). arg_by_index (takers 1 qs fs) (past 1 gone) ≡ None) (sym (append-nil gone) ∙ split) (no_place 1 gone fs)

  next_place : (gone : List Text) (p : Text) (left : List Text) → gone ++ p ∷ left ≡ ps → min (past 1 gone + 1) usize_max ≡ past 1 (gone ++ p ∷ [])
  next_place gone p left split =
      let within : past 1 gone ≤ past 1 (gone ++ p ∷ left) = past_within 1 gone (p ∷ left) in
      let all : past 1 (gone ++ p ∷ left) ≡ past 1 ps = ap (past 1) split in
      let less : past 1 ps < usize_max = ltb-true (past 1 ps) usize_max few in
      place_after (past 1 gone) (omega (arith, within, all, less)) ∙ sym (past_next 1 gone p)

  module _ (behind : Bool) (word : Text) (rest : List Text) (then : GoesOn behind rest) (rows : List Row) (pending : Pending) (gone : List Text) (met : Met) where
    abbrev here : Walk
    here = there behind (past 1 gone) rows pending

    placed_by : (left : List Text) → Holding rows pending gone left met
        → turn_fault (s own ps fs) [] here word ≡ step_fault (s own ps fs) (past 1 gone) (held rows pending) clap.value
        → walked R [] here word ≡ after_step R word here (held rows pending) clap.value
        → Answers here (word ∷ rest) (told_then (placed_in left word (state left met (next_of behind))) rest)
    placed_by [] holds turn walks = turn_stops own ps fs here word rest
        (fails_as (turn ∙ ap (λ (o : Option Rule). option_map_or (λ a. positional_fault R false a (held rows pending)) o (stray_fault (s own ps fs))) (no_place_at gone holds.places.split)) (λ e. cc))
    placed_by (p ∷ left) holds turn walks =
        let split = holds.places.split in
        let is = place_is gone p left split in
        let numbered = place_at gone p left split in
        let off = place_off gone p left split in
        let none = holds.places.free.0 in
        let passes = turn
        ∙ ap (λ (o : Option Rule). option_map_or (λ a. positional_fault R false a (held rows pending)) o (stray_fault (s own ps fs))) numbered
        ∙ and_false (is_pending (place_taker (past 1 gone) p) pending) [] (settle_fault R false (held rows pending)) ∙ holds.good in
        let goes : walked R [] here word ≡ there behind (past 1 (gone ++ p ∷ [])) (now own ps fs rows pending) (Some (p, word ∷ [])) =
        walks ∙ ap (λ (o : Option Rule). to_positional R o word here (held rows pending)) numbered
        ∙ (λ i. record {
          held = pushed p word (and_false (is_pending (place_taker (past 1 gone) p) pending) (held rows pending) (settled R (held rows pending)) i);
          waiting = clap.idle;
          position = next_place gone p left split i;
          is_trailing = or_false behind i;
          stopped = None;
        }) in
        stepped own ps fs here (there behind (past 1 (gone ++ p ∷ [])) (now own ps fs rows pending) (Some (p, word ∷ []))) word rest
        (told_from (state left (met ++ (p, word) ∷ []) (next_of behind)) rest) passes goes
        (then (now own ps fs rows pending) (Some (p, word ∷ [])) (gone ++ p ∷ []) left (met ++ (p, word) ∷ []) (record {
          good = pending_good p is (now own ps fs rows pending) word met holds.stands none;
          stands = pending_stands p is (now own ps fs rows pending) word met holds.stands none;
          places = places_next ps gone left met p word holds.places off;
        }))

  -- ---- a value that is stored at once

  module _ (word : Text) (rest : List Text) (then : GoesOn false rest) (name value : Text) (a : Rule) (values : List Text)
      (used_is : (rows : List Row) → used a values rows ≡ with_values name (reading_by a) CommandLine (value ∷ []) (without name rows))
      (new : (rows : List Row) → has_row name rows ≡ false → use_fault false a values rows ≡ [])
      (again : (rows : List Row) → has_row name rows ≡ true → Fails (use_fault false a values rows))
      (apart : (gone left : List Text) → gone ++ left ≡ ps → AllApart name left)
      (rows : List Row) (pending : Pending) (gone left : List Text) (met : Met) (holds : Holding rows pending gone left met) where
    abbrev before : Walk
    before = there false (past 1 gone) rows pending

    abbrev R_now : List Row
    R_now = now own ps fs rows pending

    at_once : turn_fault (s own ps fs) [] before word ≡ or_else (use_fault false a values R_now) []
        → walked R [] before word ≡ walk_in (past 1 gone) clap.idle (held (used a values R_now) None)
        → Answers before (word ∷ rest) (told_then (met_once name value (state left met anything)) rest)
    at_once turn walks = go (value_at name met) refl
      where
        go : (old : Option Text) → value_at name met ≡ old
            → Answers before (word ∷ rest) (told_then (cond (is_some old) None (Some (state left (met ++ (name, value) ∷ []) anything))) rest)
        go None none = stepped own ps fs before (there false (past 1 gone) (used a values R_now) None) word rest
            (told_from (state left (met ++ (name, value) ∷ []) anything) rest)
            (turn ∙ ap (λ (k : Kinds). or_else k []) (new R_now (new_row R_now met holds.stands name none))) walks
            (then (used a values R_now) None gone left (met ++ (name, value) ∷ []) (record {
              good = refl;
              stands = subst (λ (rs : List Row). Stands rs (met ++ (name, value) ∷ []))
                  (sym (used_is R_now ∙ first_use name (reading_by a) (value ∷ []) R_now (lacks R_now met holds.stands name none)))
                  (stands_more R_now met (reading_by a) name value holds.stands);
              places = places_more ps gone left met name value holds.places (apart gone left holds.places.split);
            }))
        go (Some old) some = turn_stops own ps fs before word rest
            (fails_as turn (or_nothing (use_fault false a values R_now) (again R_now (old_row R_now met holds.stands name old some))))

  -- ---- an option that takes the next word

  -- After the value, `clap` is idle again.
  value_goes : (name : Text) → IsValued name → ((gone left : List Text) → gone ++ left ≡ ps → AllApart name left)
      → (word : Text) (rest : List Text) → GoesOn false rest → (rows : List Row) (gone left : List Text) (met : Met) → Stands rows met → Places ps gone left met
      → Answers (walk_in (past 1 gone) clap.idle (held rows (Some (name, word ∷ [])))) rest (told_then (met_once name word (state left met (value_of name))) rest)
  value_goes name is apart word rest then rows gone left met stands places = go (value_at name met) refl
    where
      go : (old : Option Text) → value_at name met ≡ old
          → Answers (walk_in (past 1 gone) clap.idle (held rows (Some (name, word ∷ [])))) rest (told_then (cond (is_some old) None (Some (state left (met ++ (name, word) ∷ []) anything))) rest)
      go None none = then rows (Some (name, word ∷ [])) gone left (met ++ (name, word) ∷ []) (record {
        good = pending_good name is rows word met stands none;
        stands = pending_stands name is rows word met stands none;
        places = places_more ps gone left met name word places (apart gone left places.split);
      })
      go (Some old) some = stuck_idle own ps fs rows (Some (name, word ∷ [])) (pending_bad name is rows word met stands old some) (past 1 gone) rest

  waits_step : (word : Text) (rest : List Text) → GoesOn false rest → OptionWaits (word ∷ rest)
  unfolding read_from
  waits_step word rest then name is apart rows gone left met stands places = go (look_of word) (looks word)
    where
      bad : Fails (settle_fault R false (held rows (Some (name, []))))
      bad = fails_as (settle_is name is rows []) (use_none name is.long is.short is.index is.required rows)

      go : (look : Look) → Looks word look → Answers (walk_in (past 1 gone) (clap.option name) (held rows (Some (name, [])))) (word ∷ rest) (told_then (valued look name word (state left met (value_of name))) rest)
      go end_of_flags seen = stuck_dashes own ps fs rows (Some (name, [])) bad (past 1 gone) (clap.option name) word rest refl seen
      go (long flag v) seen = stuck_long own ps fs rows (Some (name, [])) bad (past 1 gone) (clap.option name) word rest refl flag v seen
      go (short c more) seen = stuck_short own ps fs rows (Some (name, [])) bad (past 1 gone) (clap.option name) word rest refl c more seen
      go plain seen =
          let turn = plain_turn (s own ps fs) [] (past 1 gone) (clap.option name) rows (Some (name, [])) word refl seen in
          let walks : walked R [] (walk_in (past 1 gone) (clap.option name) (held rows (Some (name, [])))) word ≡ walk_in (past 1 gone) clap.idle (held rows (Some (name, word ∷ []))) =
          turn.1 ∙ rw (is.found_is, same_text name name refl) refl in
          stepped own ps fs (walk_in (past 1 gone) (clap.option name) (held rows (Some (name, [])))) (walk_in (past 1 gone) clap.idle (held rows (Some (name, word ∷ [])))) word rest
          (told_then (met_once name word (state left met (value_of name))) rest) turn.0 walks
          (value_goes name is apart word rest then rows gone left met stands places)

  waits_end : OptionWaits []
  unfolding read_from
  waits_end name is apart rows gone left met stands places = go left
    where
      bad : Fails (settle_fault R false (held rows (Some (name, []))))
      bad = fails_as (settle_is name is rows []) (use_none name is.long is.short is.index is.required rows)

      fails : Fails (level_from own ps fs (walk_in (past 1 gone) (clap.option name) (held rows (Some (name, [])))) [])
      fails = stuck_end own ps fs rows (Some (name, [])) bad (walk_in (past 1 gone) (clap.option name) (held rows (Some (name, [])))) refl

      go : (left : List Text) → Answers (walk_in (past 1 gone) (clap.option name) (held rows (Some (name, [])))) [] (met_at_end left (value_of name) met)
      go [] = fails
      go (p ∷ left) = fails

  -- ---- a flag

  flag_is_valued : (f : Flag) → Among f fs → (l : Option Text) (c : Option ℕ) → arg_by_id R (name_of f) ≡ Some (valued_rule (name_of f) l c None false) → IsValued (name_of f)
  flag_is_valued f among l c found_is = record { long = l; short = c; index = None; required = false; found_is = found_is }

  flag_off : (f : Flag) → Among f fs → (gone left : List Text) → gone ++ left ≡ ps → AllApart (name_of f) left
  flag_off f among gone left split = subst (λ (qs : List Text). is_distinct (ids qs fs) ≡ true → AllApart (name_of f) left) split
      (λ d. flag_apart gone left fs f d among) distinct

  module _ (word : Text) (rest : List Text) (then : GoesOn false rest) (waits : OptionWaits rest)
      (rows : List Row) (pending : Pending) (gone left : List Text) (met : Met) (holds : Holding rows pending gone left met) where
    abbrev from : Walk
    from = there false (past 1 gone) rows pending

    abbrev h : Held
    h = held rows pending

    abbrev result : Option State → Type 0
    result st = Answers from (word ∷ rest) (told_then st rest)

    -- What `clap` does with a word that is this option, with or without a value.
    abbrev Turn : Rule → Option Text → Type 0
    Turn a v = (kinds : Kinds) (made : Held) (waiting : Waiting) → option_fault R false a v h ≡ kinds
        → after_flag R clap.idle word (option_met R a v h).0 (option_met R a v h).1 ≡ (made, clap.next waiting)
        → (turn_fault (s own ps fs) [] from word ≡ or_else kinds []) × (walked R [] from word ≡ walk_in (past 1 gone) waiting made)

    option_goes : (name : Text) (is : IsValued name) → ((gone left : List Text) → gone ++ left ≡ ps → AllApart name left)
        → (v : Option Text) → Turn (rule_by name is) v → result (flag_met (Some (option name)) v (state left met anything))
    option_goes name is apart None turn =
        let t = turn [] (held (now own ps fs rows pending) (Some (name, []))) (clap.option name) holds.good refl in
        stepped own ps fs from (walk_in (past 1 gone) (clap.option name) (held (now own ps fs rows pending) (Some (name, [])))) word rest
        (told_from (state left met (value_of name)) rest) t.0 t.1
        (waits name is apart (now own ps fs rows pending) gone left met holds.stands holds.places)
    option_goes name is apart (Some v) turn =
        let a = rule_by name is in
        let t = turn (use_fault false a (v ∷ []) (now own ps fs rows pending)) (held (used a (v ∷ []) (now own ps fs rows pending)) None) clap.idle
        (ap (λ (k : Kinds). or_else k (use_fault false a (v ∷ []) (now own ps fs rows pending))) holds.good) refl in
        at_once word rest then name v a (v ∷ []) (λ rs. refl) (λ rs. use_new name is.long is.short is.index is.required rs v) (λ rs. use_again name is.long is.short is.index is.required rs v)
        apart rows pending gone left met holds t.0 t.1

    switch_goes : (name : Text) → ((gone left : List Text) → gone ++ left ≡ ps → AllApart name left)
        → (turn_fault (s own ps fs) [] from word ≡ or_else (use_fault false (switch_rule name) [] (now own ps fs rows pending)) [])
        × (walked R [] from word ≡ walk_in (past 1 gone) clap.idle (held (used (switch_rule name) [] (now own ps fs rows pending)) None))
        → result (met_once name (codes "true") (state left met anything))
    switch_goes name apart t = at_once word rest then name (codes "true") (switch_rule name) [] (λ rs. refl) (switch_new name) (switch_again name)
        apart rows pending gone left met holds t.0 t.1

    -- A flag with its name.
    module _ (name : Text) where
      rule_is : (o : Option Flag) → find (is_long name) fs ≡ o → arg_by_long R name ≡ rule_or_help o (bytes_eq (codes "help") name)
      rule_is o e = by_long 1 ps fs name ∙ ap (λ (o : Option Flag). rule_or_help o (bytes_eq (codes "help") name)) e

      long_goes : (o : Option Flag) → find (is_long name) fs ≡ o → (v : Option Text) → Looks word (long name v) → result (flag_met o v (state left met anything))
      long_goes None e v seen = turn_stops own ps fs from word rest
          (long_fails (s own ps fs) [] (past 1 gone) clap.idle rows pending word refl name v seen
          (subst (λ (r : Option Rule). Fails (long_fault R false r v h)) (sym (rule_is None e)) (none_long_fails R false h (bytes_eq (codes "help") name) v)))
      long_goes (Some (switch own_name)) e None seen = switch_goes own_name (flag_off (switch own_name) (find_among (is_long name) fs (switch own_name) e).0)
          (long_turn (s own ps fs) [] (past 1 gone) clap.idle rows pending word refl name None seen (Some (switch_rule own_name)) (rule_is (Some (switch own_name)) e)
          (use_fault false (switch_rule own_name) [] (now own ps fs rows pending)) (held (used (switch_rule own_name) [] (now own ps fs rows pending)) None) clap.idle
          (ap (λ (k : Kinds). or_else k (use_fault false (switch_rule own_name) [] (now own ps fs rows pending))) holds.good) refl)
      long_goes (Some (switch own_name)) e (Some v) seen = turn_stops own ps fs from word rest
          (long_fails (s own ps fs) [] (past 1 gone) clap.idle rows pending word refl name (Some v) seen
          (subst (λ (r : Option Rule). Fails (long_fault R false r (Some v) h)) (sym (rule_is (Some (switch own_name)) e)) (λ e. cc)))
      long_goes (Some (option own_name)) e v seen =
          let among = (find_among (is_long name) fs (option own_name) e).0 in
          option_goes own_name (flag_is_valued (option own_name) among (Some own_name) None (named 1 ps fs (option own_name) distinct among)) (flag_off (option own_name) among) v
          (long_turn (s own ps fs) [] (past 1 gone) clap.idle rows pending word refl name v seen (Some (valued_rule own_name (Some own_name) None None false)) (rule_is (Some (option own_name)) e))
      long_goes (Some (letter own_name c)) e v seen =
          let bad : false ≡ true = (find_among (is_long name) fs (letter own_name c) e).1 in absurd cc

    -- A flag with its letter.
    module _ (c : ℕ) (more : Text) (seen : Looks word (short c more)) where
      letter_is : (o : Option Flag) → find (is_short c) fs ≡ o → arg_by_short R c ≡ rule_or_help o (104 == c)
      letter_is o e = by_short 1 ps fs c ∙ ap (λ (o : Option Flag). rule_or_help o (104 == c)) e

      as_option : (name : Text) (x : ℕ) (v : Option Text) → result (flag_met (Some (option name)) v (state left met anything)) → result (flag_met (Some (letter name x)) v (state left met anything))
      as_option name x None goes = goes
      as_option name x (Some v) goes = goes

      short_goes : (o : Option Flag) → find (is_short c) fs ≡ o → result (flag_met o (attached_value more) (state left met anything))
      short_goes None e = turn_stops own ps fs from word rest
          (short_fails (s own ps fs) [] (past 1 gone) clap.idle rows pending word refl c more seen (rule_or_help None (104 == c)) (letter_is None e)
          (none_short_fails R false h (104 == c) more))
      short_goes (Some (switch own_name)) e =
          let bad : false ≡ true = (find_among (is_short c) fs (switch own_name) e).1 in absurd cc
      short_goes (Some (option own_name)) e =
          let bad : false ≡ true = (find_among (is_short c) fs (option own_name) e).1 in absurd cc
      short_goes (Some (letter own_name x)) e =
          let among = (find_among (is_short c) fs (letter own_name x) e).0 in
          as_option own_name x (attached_value more)
          (option_goes own_name (flag_is_valued (letter own_name x) among None (Some x) (named 1 ps fs (letter own_name x) distinct among)) (flag_off (letter own_name x) among) (attached_value more)
          (short_turn (s own ps fs) [] (past 1 gone) clap.idle rows pending word refl c more seen (valued_rule own_name None (Some x) None false) (letter_is (Some (letter own_name x)) e) refl))

    -- ---- any word

    word_goes : GoesOn true rest → (look : Look) → Looks word look → result (read_on fs look word (state left met anything))
    word_goes behind end_of_flags seen =
        let passes = dashes_pass (s own ps fs) [] (past 1 gone) clap.idle rows pending word refl seen in
        stepped own ps fs from (there true (past 1 gone) rows pending) word rest (told_from (state left met only_places) rest) passes.0 passes.1
        (behind rows pending gone left met holds)
    word_goes behind (long name v) seen = long_goes name (find (is_long name) fs) refl v seen
    word_goes behind (short c more) seen = short_goes c more seen (find (is_short c) fs) refl
    word_goes behind plain seen =
        let turn = plain_turn (s own ps fs) [] (past 1 gone) clap.idle rows pending word refl seen in
        placed_by false word rest then rows pending gone met left holds turn.0 turn.1

  -- ---- all words

  goes_step : (word : Text) (rest : List Text) → GoesOn false rest → OptionWaits rest → GoesOn true rest → GoesOn false (word ∷ rest)
  unfolding read_from
  goes_step word rest then waits behind rows pending gone left met holds = word_goes word rest then waits rows pending gone left met holds behind (look_of word) (looks word)

  behind_step : (word : Text) (rest : List Text) → GoesOn true rest → GoesOn true (word ∷ rest)
  unfolding read_from walked
  behind_step word rest then rows pending gone left met holds = placed_by true word rest then rows pending gone met left holds refl refl

  goes_end : (behind : Bool) → GoesOn behind []
  unfolding read_from
  goes_end true rows pending gone left met holds = ended own ps fs rows pending gone met (there true (past 1 gone) rows pending) refl left holds only_places refl
  goes_end false rows pending gone left met holds = ended own ps fs rows pending gone met (there false (past 1 gone) rows pending) refl left holds anything refl

  record All (rest : List Text) : Type 0 where
    idle : GoesOn false rest
    waits : OptionWaits rest
    behind : GoesOn true rest

  all : (rest : List Text) → All rest
  all [] = record { idle = goes_end false; waits = waits_end; behind = goes_end true }
  all (word ∷ rest) = let then = all rest in record {
    idle = goes_step word rest then.idle then.waits then.behind;
    waits = waits_step word rest then.idle;
    behind = behind_step word rest then.behind;
  }

  -- `clap` accepts the words exactly if the definitions do, and parses the same values.
  pub taken_agrees : (words : List Text) → Answers (walk_in 1 clap.idle (held [] None)) words (told_from (state ps [] anything) words)
  taken_agrees words = (all words).idle [] None [] ps [] (record {
    good = refl;
    stands = λ name. tt;
    places = record { split = refl; filled = tt; free = all_free_at_first ps };
  })
    where
      all_free_at_first : (ps : List Text) → AllFree ps []
      all_free_at_first [] = tt
      all_free_at_first (p ∷ ps) = (refl, all_free_at_first ps)
