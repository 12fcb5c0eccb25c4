-- Lists of tables, one element after the other.
use Rattle.std.proofs.Common.{◌≡◌, ℕ, zero, suc, ◌+◌, ◌<◌, ◌≤◌, List, [], ◌∷◌, ◌++◌, length, drop, get_or, refl, sym, ap, ◌∙◌, arith}
use Rattle.toml.specs.Data.{Data, Items, Members, no_items, item, push_item, as_table, table}
use Rattle.std.specs.Prelude.{Some}
use Rattle.toml.specs.View.{items_view, view}
use Rattle.toml.specs.declared.value.Value.{Value}
use Rattle.toml.proofs.Views.{items_view-drop, items_view-push}
use Rattle.scenario.specs.Asking.{Asked, asked_in, asked_of, gathered}
use Rattle.scenario.proofs.AskLemmas.{gathered_more}
use Rattle.scenario.specs.Members.{join}
use Rattle.scenario.specs.ReferenceNames.{File}
use Rattle.scenario.specs.Resolved.{further, one_each, rebuilt, with_tables}

pub join_push : (ds es : Items) (d : Data) → join (push_item ds d) es ≡ join ds (item d es)
join_push no_items es d = refl
join_push (item x ds) es d = ap (item x) (join_push ds es d)

pub join_join : (ds es fs : Items) → join (join ds es) fs ≡ join ds (join es fs)
join_join no_items es fs = refl
join_join (item x ds) es fs = ap (item x) (join_join ds es fs)

pub join_none : (ds : Items) → join ds no_items ≡ ds
join_none no_items = refl
join_none (item x ds) = ap (item x) (join_none ds)

pub no_more : (i : ℕ) (vs : List Value) → length vs ≤ i → items_view (drop i vs) ≡ no_items
no_more zero [] l = refl
no_more zero (v ∷ vs) l = absurd (omega arith)
no_more (suc i) [] l = refl
no_more (suc i) (v ∷ vs) l = no_more i vs (omega arith)

-- One more value.
pub pushed_one : (old new : List Value) (v : Value) (d : Data) → new ≡ old ++ v ∷ [] → view v ≡ d → items_view new ≡ join (items_view old) (item d no_items)
pushed_one old new v d pushed seen = rw (pushed, items_view-push old v, ← seen) (sym (join_none _) ∙ join_push (items_view old) no_items (view v))

module _ (files : List File) where
  one_item : (ms : Members) (i : ℕ) (vs : List Value) (v : Value) → i < length vs → v ≡ get_or vs i v
      → one_each files ms (items_view (drop i vs)) ≡ item (table (rebuilt files (Some (view v)) ms)) (one_each files ms (items_view (drop (i + 1) vs)))
  one_item ms i vs v l e = rw (items_view-drop vs i v l, ← e) refl

  -- A table for one more general.
  pub each_further : (ms : Members) (old new : Items) (one : Data) (i : ℕ) (vs : List Value) (v : Value) (total : Items) → i < length vs → v ≡ get_or vs i v
      → new ≡ join old (item one no_items) → one ≡ table (rebuilt files (Some (view v)) ms)
      → join old (one_each files ms (items_view (drop i vs))) ≡ total → join new (one_each files ms (items_view (drop (i + 1) vs))) ≡ total
  each_further ms old new one i vs v total l e pushed seen so_far =
      rw (pushed, join_join old (item one no_items) (one_each files ms (items_view (drop (i + 1) vs))), seen)
      (ap (join old) (sym (one_item ms i vs v l e)) ∙ so_far)

  pub each_done : (ms : Members) (i : ℕ) (vs : List Value) (old : Items) (total : Items) → length vs ≤ i → join old (one_each files ms (items_view (drop i vs))) ≡ total → old ≡ total
  each_done ms i vs old total l so_far = sym (join_none old) ∙ rw (no_more i vs l) at so_far

  first_tables : (done : Items) (i : ℕ) (vs : List Value) (v : Value) → i < length vs → v ≡ get_or vs i v
      → further files done (items_view (drop i vs)) ≡ further files (with_tables files done (view v)) (items_view (drop (i + 1) vs))
  first_tables done i vs v l e = rw (items_view-drop vs i v l, ← e) refl

  -- One more element.
  pub resolved_further : (old new : List Value) (i : ℕ) (vs : List Value) (v : Value) (total : Items) → i < length vs → v ≡ get_or vs i v
      → items_view new ≡ with_tables files (items_view old) (view v)
      → further files (items_view old) (items_view (drop i vs)) ≡ total → further files (items_view new) (items_view (drop (i + 1) vs)) ≡ total
  resolved_further old new i vs v total l e is so_far = rw is (sym (first_tables (items_view old) i vs v l e) ∙ so_far)

  pub resolved_done : (i : ℕ) (vs : List Value) (old total : Items) → length vs ≤ i → further files old (items_view (drop i vs)) ≡ total → old ≡ total
  resolved_done i vs old total l so_far = rw (no_more i vs l) at so_far

first_asked : (i : ℕ) (vs : List Value) (v : Value) → i < length vs → v ≡ get_or vs i v
    → asked_in i (items_view (drop i vs)) ≡ asked_of i (as_table (view v)) ++ asked_in (i + 1) (items_view (drop (i + 1) vs))
first_asked i vs v l e = rw (items_view-drop vs i v l, ← e) refl

-- The files of one more element.
pub asked_further : (old new : List Asked) (i : ℕ) (vs : List Value) (v : Value) (total : List Asked) → i < length vs → v ≡ get_or vs i v
    → new ≡ gathered old (asked_of i (as_table (view v))) → gathered old (asked_in i (items_view (drop i vs))) ≡ total
    → gathered new (asked_in (i + 1) (items_view (drop (i + 1) vs))) ≡ total
asked_further old new i vs v total l e is so_far =
    rw (is, ← gathered_more old (asked_of i (as_table (view v))) (asked_in (i + 1) (items_view (drop (i + 1) vs))))
    (ap (gathered old) (sym (first_asked i vs v l e)) ∙ so_far)

pub asked_done : (i : ℕ) (vs : List Value) (old total : List Asked) → length vs ≤ i → gathered old (asked_in i (items_view (drop i vs))) ≡ total → old ≡ total
asked_done i vs old total l so_far = rw (no_more i vs l) at so_far
