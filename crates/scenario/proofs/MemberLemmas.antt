-- The map of a TOML table in the code, and its members in definitions.
use Rattle.std.proofs.Common.{◌≡◌, ℕ, List, [], ◌∷◌, ◌∙◌, String, Global, Ordering, Less, Equal, Greater, Option, None, Some, Bor, option_map, string_bytes, string_cmp, nat_cmp, refl, ap}
use Rattle.std.specs.Prelude.{is_some}
use Rattle.std.specs.BTreeMap.{insert_entry, is_at}
use Rattle.std.specs.Cmp.Lexicographic.{slice_cmp}
use Rattle.std.specs.Map.{lookup}
use Rattle.std.specs.Ordering.{match_ordering}
use Rattle.toml.specs.Data.{get_member}
use Rattle.toml.specs.View.{members_view, view}
use Rattle.toml.specs.declared.value.Value.{Value}
use Rattle.toml.proofs.Views.{Entry, table_get}
use Rattle.scenario.specs.Members.{put}

members_by_order : (o : Ordering) (a b c : List Entry) → members_view (match_ordering o a b c) ≡ match_ordering o (members_view a) (members_view b) (members_view c)
members_by_order Less a b c = refl
members_by_order Equal a b c = refl
members_by_order Greater a b c = refl

-- Inserting an entry into the map puts it into the members.
pub inserted : (es : List Entry) (k : String Global) (v : Value) → members_view (insert_entry string_cmp es k v) ≡ put (string_bytes k) (view v) (members_view es)
inserted [] k v = refl
inserted (e ∷ es) k v = members_by_order (string_cmp k e.0) _ _ _ ∙ rw (inserted es k v)

-- A key is there exactly if it has a value.
pub found : (r : Option (Bor Value)) (k : List ℕ) (es : List Entry) → option_map (λ x. x.now) r ≡ lookup (is_at (λ x. slice_cmp nat_cmp k (string_bytes x))) es
    → is_some r ≡ is_some (get_member k (members_view es))
found None k es h = ap is_some (table_get None k es h)
found (Some x) k es h = ap is_some (table_get (Some x) k es h)

pub put_by : (old new : List Entry) (name : String Global) (key : List ℕ) (v : Value) → string_bytes name ≡ key → new ≡ insert_entry string_cmp old name v → members_view new ≡ put key (view v) (members_view old)
put_by old new name key v named is = rw (is, ← named) (inserted old name v)
