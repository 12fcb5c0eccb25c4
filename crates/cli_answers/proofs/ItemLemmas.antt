-- The elements of a JSON array, one word after another.
use Rattle.std.proofs.Common.{◌≡◌, ℕ, zero, suc, ◌+◌, ◌<◌, ◌≤◌, arith, length, drop, get_or, List, [], ◌∷◌, ◌++◌, Option, None, Some, Bor, Vec, Global, option_map, refl, sym, ap, ◌∙◌}
use Rattle.std.proofs.lemmas.List.{drop_more}
use Rattle.serde_json.specs.Data.{Data, array, number, string, unsigned, Items, no_items, item}
use Rattle.serde_json.specs.View.{items_view, view}
use Rattle.serde_json.specs.declared.value.Value.{Value, Array}
use Rattle.serde_json.proofs.Views.{view-Array}
use Rattle.text.specs.declared.stop.Stop.{Stop}
use Rattle.text.specs.Parts.{GivesPieces, left, pieces}
use Rattle.serde_json.specs.Data.{Members}
use Rattle.text.specs.Parts.{before}
use Rattle.text.specs.Stop.{semicolon}
use Rattle.std.specs.Str.Lossy.{utf8_lossy}
use Rattle.text.proofs.PartsLemmas.{pieces_is}
use Rattle.cli_answers.specs.Advice.{instructions, last_piece}
use Rattle.cli_answers.specs.Instructions.{arrow, each, with_instruction, with_parts}
use Rattle.cli_answers.specs.Texts.{behind_stop}
use Rattle.cli_answers.specs.Labels.{numbers}
use Rattle.cli_answers.specs.Values.{Word, all}

-- Returns the elements of both lists.
abbrev pub join : Items → Items → Items
join no_items es = es
join (item d ds) es = item d (join ds es)

-- Returns these elements followed by the others, or None if there are no others.
abbrev pub onto : Items → Option Items → Option Items
onto ds None = None
onto ds (Some es) = Some (join ds es)

pub join_none : (ds : Items) → join ds no_items ≡ ds
join_none no_items = refl
join_none (item d ds) = ap (item d) (join_none ds)

-- Proves that one more value is one more element.
pub join_last : (vs : List Value) (v : Value) (es : Items) → join (items_view (vs ++ v ∷ [])) es ≡ join (items_view vs) (item (view v) es)
join_last [] v es = refl
join_last (w ∷ vs) v es = ap (item (view w)) (join_last vs v es)

onto_last : (vs : List Value) (v : Value) (o : Option Items) → onto (items_view (vs ++ v ∷ [])) o ≡ onto (items_view vs) (option_map (item (view v)) o)
onto_last vs v None = refl
onto_last vs v (Some es) = ap Some (join_last vs v es)

-- Proves that a text is its first piece followed by the remaining ones.
pub given_left : (stop : Stop) (front : Word) (rest : Option (Bor (List ℕ))) (pieces : List Word) → GivesPieces stop front rest pieces → pieces ≡ front ∷ left stop rest
given_left stop front None all h = h
given_left stop front (Some r) all h = h

module _ (tells : Word → Option Data) (stop : Stop) where
  -- Proves that one more word has a value.
  pub more_told : (old new : List Value) (v : Value) (bytes front : Word) (rest : Option (Bor (List ℕ))) (total : Option Items) → GivesPieces stop front rest (pieces stop bytes)
      → new ≡ old ++ v ∷ [] → Some (view v) ≡ tells front → onto (items_view old) (all tells (pieces stop bytes)) ≡ total → onto (items_view new) (all tells (left stop rest)) ≡ total
  more_told old new v bytes front rest total given pushed told so_far =
      let first = rw (given_left stop front rest (pieces stop bytes) given) at so_far in
      rw (pushed, onto_last old v (all tells (left stop rest))) (rw (← told) at first)

  -- Proves that a word without a value leaves the array without a value.
  pub none_told : (old : Items) (bytes front : Word) (rest : Option (Bor (List ℕ))) (total : Option Items) → GivesPieces stop front rest (pieces stop bytes)
      → None ≡ tells front → onto old (all tells (pieces stop bytes)) ≡ total → None ≡ option_map array total
  none_told old bytes front rest total given none so_far =
      let first = rw (given_left stop front rest (pieces stop bytes) given) at so_far in
      ap (option_map array) (rw (← none) at first)

-- Proves that the array is complete after the last word.
pub all_told : (tells : Word → Option Data) (old : Vec Value Global) (total : Option Items) → onto (items_view old.items) (all tells []) ≡ total → Some (view (Array old)) ≡ option_map array total
all_told tells old total so_far = ap (λ (d : Data). Some d) (view-Array old ∙ ap array (sym (join_none (items_view old.items)))) ∙ ap (option_map array) so_far

-- Proves that one more general is one more element.
pub numbers_further : (old new : List Value) (v : Value) (i : ℕ) (ns : List ℕ) (n d : ℕ) (total : Items) → i < length ns → n ≡ get_or ns i d → new ≡ old ++ v ∷ [] → view v ≡ number (unsigned n)
    → join (items_view old) (numbers (drop i ns)) ≡ total → join (items_view new) (numbers (drop (i + 1) ns)) ≡ total
numbers_further old new v i ns n d total l e pushed seen so_far =
    let first : numbers (drop i ns) ≡ item (number (unsigned n)) (numbers (drop (i + 1) ns)) = rw (drop_more ns i d l, ← e) refl in
    rw (pushed, join_last old v (numbers (drop (i + 1) ns)), seen) (rw first at so_far)

no_numbers : (i : ℕ) (ns : List ℕ) → length ns ≤ i → numbers (drop i ns) ≡ no_items
no_numbers zero [] l = refl
no_numbers zero (n ∷ ns) l = absurd (omega arith)
no_numbers (suc i) [] l = refl
no_numbers (suc i) (n ∷ ns) l = no_numbers i ns (omega arith)

pub numbers_done : (i : ℕ) (ns : List ℕ) (old total : Items) → length ns ≤ i → join old (numbers (drop i ns)) ≡ total → old ≡ total
numbers_done i ns old total l so_far = sym (join_none old) ∙ rw (no_numbers i ns l) at so_far

module _ (tells : Word → Option Data) where
  -- Proves that one more word with a value is one more element.
  pub more_each : (old new : List Value) (v : Value) (all more : List Word) (front : Word) (total : Items) → all ≡ front ∷ more → new ≡ old ++ v ∷ [] → Some (view v) ≡ tells front
      → join (items_view old) (each tells all) ≡ total → join (items_view new) (each tells more) ≡ total
  more_each old new v all more front total e pushed told so_far =
      let first = rw e at so_far in
      rw (pushed, join_last old v (each tells more)) (rw (← told) at first)

  -- Proves that a word without a value is no element.
  pub skip_each : (old : Items) (all more : List Word) (front : Word) (total : Items) → all ≡ front ∷ more → None ≡ tells front
      → join old (each tells all) ≡ total → join old (each tells more) ≡ total
  skip_each old all more front total e none so_far =
      let first = rw e at so_far in
      rw (← none) at first

-- Proves that the elements are complete if nothing follows.
pub each_told : (old total : Items) → join old no_items ≡ total → old ≡ total
each_told old total so_far = sym (join_none old) ∙ so_far

-- Proves that all elements are complete if nothing follows.
pub all_ended : (old : Items) (total : Option Items) → onto old (Some no_items) ≡ total → Some old ≡ total
all_ended old total so_far = ap Some (sym (join_none old)) ∙ so_far

-- Proves that the array is complete if nothing follows.
pub array_told : (old : Vec Value Global) (total : Items) → join (items_view old.items) no_items ≡ total → view (Array old) ≡ array total
array_told old total so_far = view-Array old ∙ ap array (each_told (items_view old.items) total so_far)

-- Proves that the parts of a line about an instruction are those between its semicolons.
pub instruction_cut : (text front gives instruction : Word) (reads : Option (Bor (List ℕ))) (ms : Members) → front ≡ before arrow text → gives ≡ behind_stop arrow text
    → GivesPieces semicolon instruction reads (pieces semicolon front) → with_parts (instruction ∷ left semicolon reads) (pieces semicolon gives) ms ≡ with_instruction text ms
unfolding with_instruction
instruction_cut text front gives instruction reads ms cut behind given =
    ap (λ (ws : List Word). with_parts ws (pieces semicolon gives) ms) (sym (given_left semicolon instruction reads (pieces semicolon front) given))
    ∙ (ap (λ (f : Word). with_parts (pieces semicolon f) (pieces semicolon gives) ms) cut
    ∙ ap (λ (g : Word). with_parts (pieces semicolon (before arrow text)) (pieces semicolon g) ms) behind)

-- Proves what the pieces are if two stops follow.
pub two_given : (stop : Stop) (front quoted instruction : Word) (all : List Word) (behind : Option (Bor (List ℕ))) → all ≡ front ∷ pieces stop quoted
    → GivesPieces stop instruction behind (pieces stop quoted) → all ≡ front ∷ instruction ∷ left stop behind
two_given stop front quoted instruction all behind e given =
    e ∙ ap (λ (ws : List Word). front ∷ ws) (given_left stop instruction behind (pieces stop quoted) given)

-- Proves that one more instruction is one more element.
pub quoted_more : (old new : List Value) (v : Value) (all more : List Word) (front quoted : Word) (total : Items) → all ≡ front ∷ quoted ∷ more → new ≡ old ++ v ∷ []
    → view v ≡ string (utf8_lossy quoted) → join (items_view old) (instructions all) ≡ total → join (items_view new) (instructions more) ≡ total
quoted_more old new v all more front quoted total e pushed seen so_far =
    let first = rw e at so_far in
    rw (pushed, join_last old v (instructions more), seen) first

-- Proves that the last piece is one after the first stop.
pub last_further : (stop : Stop) (front rest : Word) (all : List Word) → all ≡ front ∷ pieces stop rest → last_piece all ≡ last_piece (pieces stop rest)
last_further stop front rest all e = rw (e, pieces_is stop rest) refl

-- Proves that a text without a stop is its last piece.
pub last_alone : (front text : Word) (all : List Word) → all ≡ front ∷ [] → front ≡ text → text ≡ last_piece all
last_alone front text all e same = rw (e, same) refl
