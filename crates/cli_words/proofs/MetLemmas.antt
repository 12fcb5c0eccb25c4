-- The values that `clap` parsed.
use Rattle.std.proofs.Common.{◌≡◌, ◌∙◌, inl, inr, cond, Bor, List, [], ◌∷◌, Option, Some, None, ap, codes, false, find, true, refl, sym, option_map}
use Rattle.std.proofs.lemmas.Bool.{cases_Bool}
use Rattle.std.proofs.lemmas.Slice.Eq.{bytes_eq-Decides}
use Rattle.std.specs.Option.{option_map_or}
use Rattle.std.specs.Prelude.{option_and_then, slice_get}
use Rattle.std.specs.Str.{bytes_eq}
use Rattle.clap.specs.declared.parser.matches.Found.{Found}
use Rattle.clap.specs.Facts.{Entry}
use Rattle.clap.specs.Matches.{matched_of}
use Rattle.clap.specs.Walk.{Text, row_of, rows_of, texts}
use Rattle.clap.specs.Words.{first_value}
use Rattle.clap.proofs.WalkLemmas.{find_row}
use Rattle.cli_words.specs.Lab.{given, given_value, is_given}
use Rattle.cli_words.specs.Met.{has_places}
use Rattle.cli_words.specs.Tasks.{Told}

first_text : (vs : List (Bor Text)) → option_map (λ s. s.now) (slice_get vs 0) ≡ slice_get (texts vs) 0
first_text [] = refl
first_text (v ∷ vs) = refl

-- The value that the words give for a name is its first value, if this is no default.
pub value_given : (f : Found) (id : Text)
    → given id (rows_of f) ≡ cond (is_given (option_and_then (λ a. a.source) (matched_of f id))) (first_value f id) None
value_given f id = ap (λ o. option_map_or given_value o None) (find_row f.entries.items id) ∙ go (find (λ e. bytes_eq e.0.now id) f.entries.items)
  where
    go : (o : Option Entry) → option_map_or given_value (option_map row_of o) None
        ≡ cond (is_given (option_and_then (λ a. a.source) (option_map (λ e. e.1) o)))
        (option_and_then (λ a. option_map (λ s. s.now) (slice_get a.vals.items 0)) (option_map (λ e. e.1) o)) None
    go None = refl
    go (Some e) = ap (λ (text : Option Text). cond (is_given e.1.source) text None) (sym (first_text e.1.vals.items))

off : (known name : Text) → (name ≡ known → ⊥) → bytes_eq known name ≡ false
off known name apart = elim (cases_Bool (bytes_eq known name)) [
  | inl same ↦ absurd (apart (sym ((bytes_eq-Decides known name).0 same)))
  | inr other ↦ other
]

-- Each task has one of these names.
pub no_other_task : (told : Told) → has_places told ≡ true
    → (told.name ≡ codes "check" → ⊥) → (told.name ≡ codes "asm" → ⊥) → (told.name ≡ codes "dis" → ⊥) → (told.name ≡ codes "book" → ⊥)
    → (told.name ≡ codes "table" → ⊥) → (told.name ≡ codes "refute" → ⊥) → (told.name ≡ codes "exhaust" → ⊥) → (told.name ≡ codes "rule" → ⊥) → (told.name ≡ codes "muster" → ⊥) → (told.name ≡ codes "play" → ⊥) → (told.name ≡ codes "audit" → ⊥)
    → (told.name ≡ codes "explore" → ⊥) → (told.name ≡ codes "tree" → ⊥) → (told.name ≡ codes "draw" → ⊥) → (told.name ≡ codes "page" → ⊥) → (told.name ≡ codes "schedule" → ⊥) → ⊥
no_other_task told is check asm dis book table refute exhaust rule muster play audit explore tree draw page schedule =
    let bad : false ≡ true = rw (
      off (codes "check") told.name check,
      off (codes "asm") told.name asm,
      off (codes "dis") told.name dis,
      off (codes "book") told.name book,
      off (codes "table") told.name table,
      off (codes "refute") told.name refute,
      off (codes "exhaust") told.name exhaust,
      off (codes "rule") told.name rule,
      off (codes "muster") told.name muster,
      off (codes "play") told.name play,
      off (codes "audit") told.name audit,
      off (codes "explore") told.name explore,
      off (codes "tree") told.name tree,
      off (codes "draw") told.name draw,
      off (codes "page") told.name page,
      off (codes "schedule") told.name schedule,
    ) at is in absurd cc
