-- What `clap` does at the end of a subcommand's words, and when it fails whatever words follow.
use Rattle.std.proofs.Common.{◌≡◌, ◌∙◌, ◌&&◌, inl, inr, Bool, cond, true, false, not, List, ℕ, [], ◌∷◌, Option, Some, None, ap, codes, refl, subst, sym}
use Rattle.std.specs.List.{fold, list_any}
use Rattle.std.specs.Option.{option_map_or}
use Rattle.std.specs.Str.{bytes_eq}
use Rattle.clap.specs.Kinds.{Kinds, check_kinds, or_else}
use Rattle.clap.specs.Walk.{Held, Row, Rule, Text, Waiting, Walk, arg_by_index, arg_by_long, arg_by_short, finished, is_pending, settled, settled_rows, subcommand_met, value, walked}
use Rattle.clap.specs.Walk as clap
use Rattle.clap.specs.Simple.{Shape, new_shape}
use Rattle.clap.specs.Faults.{check_fault, defaults_fault, positional_fault, settle_fault, step_fault, stray_fault, turn_fault, walk_fault}
use Rattle.cli_words.specs.Lab.{given}
use Rattle.cli_words.specs.Usage.{Flag, Look, Next, end_of_flags, long, look_of, met_at_end, plain, short, value_at, waits}
use Rattle.cli_words.proofs.FlagLemmas.{unsettled_long, unsettled_short}
use Rattle.cli_words.proofs.PlaceLemmas.{Places, lacks_place, wanting, whole}
use Rattle.cli_words.proofs.RowLemmas.{Met, Stands, explicit_stands, given_stands}
use Rattle.cli_words.proofs.RuleLemmas.{defaults_quiet, missing, place_taker, some_place, takers}
use Rattle.cli_words.proofs.WordLemmas.{Fails, Looks, dashes_pass, fails_as, held, long_fails, looks, or_else-first, plain_turn, short_fails, trailing_in, turn_fails, walk_in}

-- The description of a subcommand after `clap` built it.
abbrev pub built_shape : Text → List Text → List Flag → Shape
built_shape name ps fs = record (new_shape name) {
  rules = takers 1 ps fs;
  no_binary_name = true;
  disable_help_subcommand = true;
  is_built = true;
}

-- `clap` fails if the definitions accept no values. Otherwise its rows have these values, and the places have words.
abbrev pub Agrees : List Text → Kinds → List Row → Option Met → Type 0
Agrees ps kinds rows None = Fails kinds
Agrees ps kinds rows (Some met) =
    (kinds ≡ []) × ((name : Text) → given name rows ≡ value_at name met) × (list_any (lacks_place met) ps ≡ false)

module _ (name : Text) (ps : List Text) (fs : List Flag) where
  abbrev pub s : Shape
  s = built_shape name ps fs

  abbrev pub rules : List Rule
  rules = takers 1 ps fs

  abbrev level_end : Kinds → Held → Kinds
  level_end kinds h = or_else kinds (or_else [] (or_else (settle_fault rules false h)
      (or_else (defaults_fault (settled rules h).rows rules) (check_fault s (finished rules h) false))))

  abbrev pub level_from : Walk → List Text → Kinds
  level_from w words = level_end (walk_fault s [] w words) (fold (walked rules []) w words).held

  abbrev pub rows_from : Walk → List Text → List Row
  rows_from w words = finished rules (fold (walked rules []) w words).held

  abbrev pub AgreesFrom : Walk → List Text → Option Met → Type 0
  AgreesFrom w words told = Agrees ps (level_from w words) (rows_from w words) told

  pub stepped : (w to : Walk) (word : Text) (rest : List Text) (told : Option Met) → turn_fault s [] w word ≡ []
      → walked rules [] w word ≡ to → AgreesFrom to rest told → AgreesFrom w (word ∷ rest) told
  unfolding walk_fault
  stepped w to word rest told turn is agrees =
      subst (λ (k : Kinds). Agrees ps (level_end (or_else k (walk_fault s [] (walked rules [] w word) rest)) (fold (walked rules []) (walked rules [] w word) rest).held) (rows_from (walked rules [] w word) rest) told) (sym turn)
      (subst (λ (v : Walk). AgreesFrom v rest told) (sym is) agrees)

  pub turn_stops : (w : Walk) (word : Text) (rest : List Text) → Fails (turn_fault s [] w word) → Fails (level_from w (word ∷ rest))
  turn_stops w word rest fails = or_else-first _ _ (turn_fails s [] w word rest fails)

  abbrev pub now : List Row → Option (Text × List Text) → List Row
  now rows pending = settled_rows rules pending rows

  -- What `clap` keeps between two words are the values so far.
  pub record Holds (rows : List Row) (pending : Option (Text × List Text)) (gone left : List Text) (met : Met) : Type 0 where
    pub good : settle_fault rules false (held rows pending) ≡ []
    pub stands : Stands (now rows pending) met
    pub places : Places ps gone left met

  -- ---- the end of the words

  module _ (rows : List Row) (pending : Option (Text × List Text)) (gone : List Text) (met : Met) where
    abbrev h : Held
    h = held rows pending

    checked : (left : List Text) → Holds rows pending gone left met
        → level_end [] h ≡ check_kinds false false (list_any (lacks_place met) ps)
    checked left holds =
        ap (λ (k : Kinds). or_else k (or_else (defaults_fault (settled rules h).rows rules) (check_fault s (finished rules h) false))) holds.good
        ∙ ap (λ (k : Kinds). or_else k (check_fault s (finished rules h) false)) (defaults_quiet 1 ps fs (now rows pending))
        ∙ ap (check_kinds false false) (missing 1 ps fs (finished rules h))
        ∙ (λ i. check_kinds false false (list_any (λ p. not (explicit_stands rules (now rows pending) met holds.stands p i)) ps))

    pub ended : (w : Walk) → w.held ≡ h → (left : List Text) → Holds rows pending gone left met → (next : Next) → waits next ≡ false
        → AgreesFrom w [] (met_at_end left next met)
    unfolding walk_fault
    ended w is [] holds next quiet = subst (λ (b : Bool). AgreesFrom w [] (cond b None (Some met))) (sym quiet) (
      ap (level_end []) is ∙ checked [] holds ∙ ap (check_kinds false false) (whole ps gone met holds.places),
      λ other. ap (λ (g : Held). given other (finished rules g)) is ∙ given_stands rules (now rows pending) met holds.stands other,
      whole ps gone met holds.places,
    )
    ended w is (p ∷ left) holds next quiet =
        fails_as (ap (level_end []) is ∙ checked (p ∷ left) holds ∙ ap (check_kinds false false) (wanting ps gone p left met holds.places)) (λ e. cc)

  -- ---- a pending value that cannot be stored

  module _ (rows : List Row) (pending : Option (Text × List Text)) (bad : Fails (settle_fault rules false (held rows pending))) where
    abbrev stuck : Held
    stuck = held rows pending

    stuck_value : (position : ℕ) → Fails (step_fault s position stuck value)
    stuck_value position = elim (some_place 1 ps fs position) [
      | inl none ↦ fails_as (ap (λ (o : Option Rule). option_map_or (λ a. positional_fault rules false a stuck) o (stray_fault s)) none) (λ e. cc)
      | inr is ↦ fails_as (ap (λ (o : Option Rule). option_map_or (λ a. positional_fault rules false a stuck) o (stray_fault s)) is.is) (go (is_pending (place_taker is.number is.name) pending))
    ]
      where
        go : (b : Bool) → Fails (cond (b && false) [] (settle_fault rules false stuck))
        go true = bad
        go false = bad

    pub stuck_end : (w : Walk) → w.held ≡ stuck → Fails (level_from w [])
    unfolding walk_fault
    stuck_end w is = fails_as (ap (level_end []) is) (or_else-first _ _ bad)

    stuck_trailing : (position : ℕ) (waiting : Waiting) (words : List Text) → Fails (level_from (trailing_in position waiting stuck) words)
    stuck_trailing position waiting [] = stuck_end (trailing_in position waiting stuck) refl
    stuck_trailing position waiting (word ∷ rest) = turn_stops (trailing_in position waiting stuck) word rest (stuck_value position)

    module _ (position : ℕ) (waiting : Waiting) (word : Text) (rest : List Text) (quiet : subcommand_met [] waiting word ≡ None) where
      pub stuck_dashes : bytes_eq word (codes "--") ≡ true → Fails (level_from (walk_in position waiting stuck) (word ∷ rest))
      stuck_dashes ends =
          let passes = dashes_pass s [] position waiting rows pending word quiet ends in
          stepped (walk_in position waiting stuck) (trailing_in position waiting stuck) word rest None passes.0 passes.1 (stuck_trailing position waiting rest)

      pub stuck_long : (name : Text) (v : Option Text) → Looks word (long name v) → Fails (level_from (walk_in position waiting stuck) (word ∷ rest))
      stuck_long name v seen = turn_stops (walk_in position waiting stuck) word rest
          (long_fails s [] position waiting rows pending word quiet name v seen (unsettled_long rules false stuck bad (arg_by_long rules name) v))

      pub stuck_short : (c : ℕ) (behind : Text) → Looks word (short c behind) → Fails (level_from (walk_in position waiting stuck) (word ∷ rest))
      stuck_short c behind seen = turn_stops (walk_in position waiting stuck) word rest
          (short_fails s [] position waiting rows pending word quiet c behind seen (arg_by_short rules c) refl (unsettled_short rules false stuck bad (arg_by_short rules c) behind))

    pub stuck_idle : (position : ℕ) (words : List Text) → Fails (level_from (walk_in position clap.idle stuck) words)
    stuck_idle position [] = stuck_end (walk_in position clap.idle stuck) refl
    stuck_idle position (word ∷ rest) = go (look_of word) (looks word)
      where
        go : (look : Look) → Looks word look → Fails (level_from (walk_in position clap.idle stuck) (word ∷ rest))
        go end_of_flags seen = stuck_dashes position clap.idle word rest refl seen
        go (long name v) seen = stuck_long position clap.idle word rest refl name v seen
        go (short c behind) seen = stuck_short position clap.idle word rest refl c behind seen
        go plain seen = turn_stops (walk_in position clap.idle stuck) word rest
            (fails_as (plain_turn s [] position clap.idle rows pending word refl seen).0 (stuck_value position))
