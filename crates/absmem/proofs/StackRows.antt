-- What is known of a stack after a window is written.
use Rattle.std.proofs.Common.{◌≡◌, ◌∙◌, ◌≢◌, ℕ, ℤ, ◌+◌, ◌/◌, ◌%◌, ◌<◌, ◌≤◌, List, length, set, get_or, Bool, true, false, refl, sym, ap, arith, ⊎_elim, length-set, get_or-set_same, get_or-set_other}
use Rattle.std.specs.Prelude.{◌==◌, ◌&&◌, nat_le, nat_lt, if◌then◌else◌}
use Rattle.std.proofs.lemmas.Bool.{le-leb, lt-ltb, le-ltb, lt-leb, eqb-true, eq-eqb, cases_lt, cases_eq, and_from}
use Rattle.std.proofs.Math.ListN.{get_or-eq_default}
use Rattle.semantics.specs.declared.value.Region.{Region}
use Rattle.semantics.specs.declared.value.Cell.{Cell}
use Rattle.semantics.specs.Memory.{overwritten, pieces_of}
use Rattle.absval.specs.declared.windows.Window.{Window}
use Rattle.absmem.specs.declared.spill.Spill.{Spill}
use Rattle.absmem.specs.declared.spill.Spill.TheVariants.{Free, Whole}
use Rattle.absmem.specs.Known.{Known, byte_at, spill_at, IsSetTo, left_of}
use Rattle.absmem.specs.Describes.{Describes as StackDescribes, AreBytes}
use Rattle.absmem.proofs.Keeping.{described_put, described_spread, described_pointer}
use Rattle.absmem.specs.Tables.{table}
use Rattle.absmem.specs.Stacks.{byte_behind, spill_behind, put_bytes, spread_bytes, put_pointer}
use Rattle.absmem.proofs.TableLaws.{length-table, table_at, table_is}

and_false : (a b : Bool) → a ≡ false → (a && b) ≡ false
and_false true b e = cc
and_false false b e = refl

and_last : (a b : Bool) → b ≡ false → (a && b) ≡ false
and_last true b e = e
and_last false b e = refl

if_true : {A : Type 0} (t : Bool) (a b : A) → t ≡ true → (if t then a else b) ≡ a
if_true true a b e = refl
if_true false a b e = cc

if_false : {A : Type 0} (t : Bool) (a b : A) → t ≡ false → (if t then a else b) ≡ b
if_false true a b e = cc
if_false false a b e = refl

pub behind_set : (value : Bool) (known : Known) (place end : ℕ) → place ≤ end → end ≤ 512 → length known.bytes ≡ 512 →
    IsSetTo value known.bytes (table 512 (byte_behind value place end known)) place end
behind_set value known place end order fits long = record {
  inside = λ k ge lt.
      let room : k < 512 = omega arith in
      table_at 512 (byte_behind value place end known) k false room
      ∙ if_true (nat_le place k && nat_lt k end) value (byte_at known.bytes k) (and_from (nat_le place k) (nat_lt k end) (le-leb place k ge) (lt-ltb k end lt));
  before = λ k lt.
      let room : k < 512 = omega arith in
      table_at 512 (byte_behind value place end known) k false room
      ∙ if_false (nat_le place k && nat_lt k end) value (byte_at known.bytes k) (and_false (nat_le place k) (nat_lt k end) (lt-leb place k lt));
  behind = λ k ge. ⊎_elim
      (λ room. table_at 512 (byte_behind value place end known) k false room
      ∙ if_false (nat_le place k && nat_lt k end) value (byte_at known.bytes k) (and_last (nat_le place k) (nat_lt k end) (le-ltb k end ge)))
      (λ over. let out : length known.bytes ≤ k = omega arith in
      let also : length (table 512 (byte_behind value place end known)) ≤ k = omega (arith, length-table 512 (byte_behind value place end known)) in
      get_or-eq_default (table 512 (byte_behind value place end known)) false also ∙ sym (get_or-eq_default known.bytes false out))
      (cases_lt k 512);
}

spills_left : (known : Known) (place end b : ℕ) → b < 64 → spill_at (table 64 (spill_behind place end known)) b ≡ left_of place end b (spill_at known.spills b)
spills_left known place end b lt = table_at 64 (spill_behind place end known) b Free lt

pub put_described : (known : Known) (w : Window) (cells new : List Cell) → w.place + w.size ≤ 512 → length known.bytes ≡ 512 → length cells ≡ 512 → AreBytes new → length new ≡ w.size →
    StackDescribes known cells → StackDescribes (put_bytes w.place w.size known) (overwritten cells w.place new)
put_described known w cells new fits flags long are size d =
    described_put known (put_bytes w.place w.size known) cells new w.place w.size (behind_set true known w.place (w.place + w.size) (omega arith) fits flags)
    (λ b lt. spills_left known w.place (w.place + w.size) b lt) fits long are size d

pub spread_described : (known : Known) (w : Window) (cells new : List Cell) (at : ℕ) → w.place + w.size ≤ 512 → length known.bytes ≡ 512 → length cells ≡ 512 → AreBytes new → w.place ≤ at →
    at + length new ≤ w.place + w.size → StackDescribes known cells → StackDescribes (spread_bytes w.place w.size known) (overwritten cells at new)
spread_described known w cells new at fits flags long are ge le d =
    described_spread known (spread_bytes w.place w.size known) cells new w.place w.size at (sym (table_is 512 (byte_at known.bytes) known.bytes false flags (λ k lt. refl)))
    (λ b lt. spills_left known w.place (w.place + w.size) b lt) fits long are ge le d

pub pointer_described : (known : Known) (place : ℕ) (region : Region) (offset : ℤ) (cells : List Cell) → place + 8 ≤ 512 → length known.bytes ≡ 512 → length cells ≡ 512 →
    StackDescribes known cells → StackDescribes (put_pointer place region offset known) (overwritten cells place (pieces_of region offset))
pointer_described known place region offset cells fits flags long d =
    described_pointer known (put_pointer place region offset known) cleared cells place region offset
    (behind_set false known place (place + 8) (omega arith) fits flags) size (λ b lt. spills_left known place (place + 8) b lt) put fits long d
  where
    cleared : List Spill
    cleared = table 64 (spill_behind place (place + 8) known)

    size : length cleared ≡ 64
    size = length-table 64 (spill_behind place (place + 8) known)

    at : (b : ℕ) → b < 64 → get_or (set cleared (place / 8) (Whole (place % 8) region offset)) b Free ≡ (if b == place / 8 then Whole (place % 8) region offset else spill_behind place (place + 8) known b)
    at b lt = ⊎_elim
        (λ same. let room : place / 8 < length cleared = omega (arith, size) in
        ap (λ (n : ℕ). get_or (set cleared (place / 8) (Whole (place % 8) region offset)) n Free) same
        ∙ (get_or-set_same cleared (place / 8) (Whole (place % 8) region offset) Free room
        ∙ sym (if_true (b == place / 8) (Whole (place % 8) region offset) (spill_behind place (place + 8) known b) (eq-eqb b (place / 8) same))))
        (λ other. get_or-set_other cleared (place / 8) b (Whole (place % 8) region offset) Free other
        ∙ (spills_left known place (place + 8) b lt
        ∙ sym (if_false (b == place / 8) (Whole (place % 8) region offset) (spill_behind place (place + 8) known b) (differs b (place / 8) other))))
        (cases_eq b (place / 8))
      where
        differs : (i j : ℕ) → i ≢ j → (i == j) ≡ false
        differs i j n = by_answer (i == j) refl
          where
            by_answer : (t : Bool) → t ≡ (i == j) → t ≡ false
            by_answer true e = absurd (n (eqb-true i j (sym e)))
            by_answer false e = refl

    put : (put_pointer place region offset known).spills ≡ set cleared (place / 8) (Whole (place % 8) region offset)
    put = sym (table_is 64 (λ b. if b == place / 8 then Whole (place % 8) region offset else spill_behind place (place + 8) known b) (set cleared (place / 8) (Whole (place % 8) region offset)) Free
        (length-set cleared (place / 8) (Whole (place % 8) region offset) ∙ size) at)
