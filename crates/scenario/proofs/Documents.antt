-- The text of a scenario with a resolved list of traitors.
use Rattle.std.proofs.Common.{◌≡◌, ℕ, true, false, List, Option, None, Some, Vec, Global, refl, ap, subst, ◌∙◌}
use Rattle.std.specs.Prelude.{codes}
use Rattle.toml.specs.Data.{Data, Items, Members, array}
use Rattle.toml.specs.View.{items_view, view}
use Rattle.toml.specs.declared.value.Value.{Value, Array}
use Rattle.toml.proofs.Views.{view-Array}
use Rattle.scenario.specs.Members.{put}
use Rattle.scenario.specs.ReferenceNames.{File}
use Rattle.scenario.specs.Resolved.{IsPrinted, ResolvesList, refers, resolved}

module _ (files : List File) (ms : Members) (o : Option Items) where
  -- There is no list of traitors.
  pub unlisted : o ≡ None → ResolvesList files ms o None
  unlisted none = rw none refl

  -- No table of the list names a file or has the key `generals`.
  pub unreferred : (ds : Items) → o ≡ Some ds → refers ds ≡ false → ResolvesList files ms o None
  unreferred ds some not = rw (some, not) refl

  -- The list is resolved, replaces the old list, and the scenario is printed.
  pub printed_so : (ds : Items) (list : Vec Value Global) (new : Members) (text : Option (List ℕ)) → o ≡ Some ds → refers ds ≡ true → items_view list.items ≡ resolved files ds
      → new ≡ put (codes "traitor") (view (Array list)) ms → IsPrinted new text → ResolvesList files ms o text
  printed_so ds list new text some so is put_so printed =
      let same : new ≡ put (codes "traitor") (array (resolved files ds)) ms = put_so ∙ ap (λ (d : Data). put (codes "traitor") d ms) (view-Array list ∙ ap array is) in
      rw (some, so) (subst (λ (m : Members). IsPrinted m text) same printed)
