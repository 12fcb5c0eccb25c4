-- The program of a general, table by table.
use Rattle.std.proofs.Common.{◌≡◌, ℕ, ◌+◌, ◌<◌, ◌≤◌, List, length, drop, get_or, Option, None, Some, refl, sym, ◌∙◌}
use Rattle.toml.proofs.Views.{items_view-drop}
use Rattle.toml.specs.Data.{Members}
use Rattle.toml.specs.View.{view, items_view}
use Rattle.toml.specs.declared.value.Value.{Value}
use Rattle.scenario.specs.Tables.{Source}
use Rattle.scenario.specs.Sources.{first_source, members_of, source_among, source_in}
use Rattle.scenario.proofs.Items.{drop_all}

among_item : (g i : ℕ) (vs : List Value) (v : Value) → i < length vs → v ≡ get_or vs i v
    → source_among g (items_view (drop i vs)) ≡ first_source (members_of g (view v)) (source_among g (items_view (drop (i + 1) vs)))
among_item g i vs v l e = rw (items_view-drop vs i v l, ← e) refl

-- A table for another general is skipped.
pub among_next : (g i : ℕ) (vs : List Value) (v : Value) (total : Option Source) → i < length vs → v ≡ get_or vs i v → members_of g (view v) ≡ None
    → source_among g (items_view (drop i vs)) ≡ total → source_among g (items_view (drop (i + 1) vs)) ≡ total
among_next g i vs v total l e other so_far = sym (among_item g i vs v l e ∙ rw other refl) ∙ so_far

-- The table for this general contains his program.
pub among_found : (g i : ℕ) (vs : List Value) (v : Value) (ms : Members) (total : Option Source) → i < length vs → v ≡ get_or vs i v → members_of g (view v) ≡ Some ms
    → source_among g (items_view (drop i vs)) ≡ total → source_in ms ≡ total
among_found g i vs v ms total l e his so_far = sym (among_item g i vs v l e ∙ rw his refl) ∙ so_far

-- No table remains.
pub among_done : (g i : ℕ) (vs : List Value) (total : Option Source) → length vs ≤ i → source_among g (items_view (drop i vs)) ≡ total → None ≡ total
among_done g i vs total l so_far = sym (rw (drop_all i vs l) refl) ∙ so_far
