-- Names that can be printed on a line are texts.
use Rattle.std.proofs.Common.{◌≡◌, ℕ, zero, suc, ◌<◌, List, [], ◌∷◌, true, IsUtf8, arith, lit<}
use Rattle.std.specs.Prelude.{slice_index, nat_le, nat_lt}
use Rattle.std.specs.List.{list_all}
use Rattle.std.proofs.lemmas.Bool.{and_parts}
use Rattle.std.proofs.lemmas.Str.{IsUtf8-from_ascii}
use Rattle.std.proofs.lemmas.Grind.{common_steps}
use Rattle.object.specs.Names.{is_visible, is_plain}

visible_low : (byte : ℕ) → is_visible byte ≡ true → byte < 128
visible_low byte h =
    let below : nat_lt byte 127 ≡ true = (and_parts (nat_le 32 byte) (nat_lt byte 127) h).1 in
    grind (arith, common_steps)

visible_at : (bs : List ℕ) → list_all is_visible bs ≡ true → (i : ℕ) → slice_index bs i < 128
visible_at [] h i = lit< tt
visible_at (b ∷ bs) h zero = visible_low b (and_parts (is_visible b) (list_all is_visible bs) h).0
visible_at (b ∷ bs) h (suc i) = visible_at bs (and_parts (is_visible b) (list_all is_visible bs) h).1 i

pub plain_utf8 : (bs : List ℕ) → is_plain bs ≡ true → IsUtf8 bs
plain_utf8 bs h =
    IsUtf8-from_ascii bs (visible_at bs (and_parts _ (list_all is_visible bs) h).1)
