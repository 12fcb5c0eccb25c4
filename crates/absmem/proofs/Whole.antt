-- What is known of a stack is determined cell by cell and block by block.
use Rattle.std.proofs.Common.{◌≡◌, ◌∙◌, ℕ, ℤ, ◌+◌, ◌/◌, ◌%◌, ◌<◌, ◌≤◌, List, length, arith, refl, sym, ap, ap₂, Bool, true, false, eqb-true, eq-eqb, set, get_or-set_same, get_or-set_other, replicate}
use Rattle.std.specs.Prelude.{◌==◌, ◌&&◌, nat_le, nat_lt, if◌then◌else◌}
use Rattle.std.proofs.lemmas.List.{get_or-replicate, length-replicate}
use Rattle.semantics.specs.declared.value.Region.{Region}
use Rattle.absmem.specs.declared.spill.Spill.{Spill}
use Rattle.absmem.specs.declared.spill.Spill.TheVariants.{Free, Whole}
use Rattle.absmem.specs.Known.{Known, byte_at, spill_at, IsSetTo, left_of}
use Rattle.absmem.specs.Stacks.{stack_of, unknown_stack, byte_behind, spill_behind, put_bytes, spread_bytes, put_pointer}
use Rattle.absmem.proofs.TableLaws.{table_is}

pub stack_is : (new : Known) (byte : ℕ → Bool) (spill : ℕ → Spill) → length new.bytes ≡ 512 → length new.spills ≡ 64 →
    ((k : ℕ) → k < 512 → byte_at new.bytes k ≡ byte k) → ((b : ℕ) → b < 64 → spill_at new.spills b ≡ spill b) → new ≡ stack_of byte spill
stack_is new byte spill cells blocks each at =
    ap₂ (λ (bytes : List Bool) (spills : List Spill). record { bytes = bytes; spills = spills })
    (table_is 512 byte new.bytes false cells each) (table_is 64 spill new.spills Free blocks at)

-- Cells that are set.
byte_set : (value : Bool) (old new : Known) (place end k : ℕ) → IsSetTo value old.bytes new.bytes place end → byte_at new.bytes k ≡ byte_behind value place end old k
byte_set value old new place end k s = by_tests (nat_le place k) (nat_lt k end) refl refl
  where
    by_tests : (from to : Bool) → from ≡ nat_le place k → to ≡ nat_lt k end → byte_at new.bytes k ≡ (if from && to then value else byte_at old.bytes k)
    by_tests true true p q = s.inside k (grind (arith)) (grind (arith))
    by_tests true false p q = s.behind k (grind (arith))
    by_tests false true p q = s.before k (grind (arith))
    by_tests false false p q = s.before k (grind (arith))

module _ (old new : Known) (cells : length new.bytes ≡ 512) (blocks : length new.spills ≡ 64) where
  pub put_is : (place size : ℕ) → IsSetTo true old.bytes new.bytes place (place + size) →
      ((b : ℕ) → b < 64 → spill_at new.spills b ≡ left_of place (place + size) b (spill_at old.spills b)) → new ≡ put_bytes place size old
  put_is place size s left =
      stack_is new (byte_behind true place (place + size) old) (spill_behind place (place + size) old) cells blocks
      (λ k lt. byte_set true old new place (place + size) k s) left

  pub spread_is : (place size : ℕ) → new.bytes ≡ old.bytes →
      ((b : ℕ) → b < 64 → spill_at new.spills b ≡ left_of place (place + size) b (spill_at old.spills b)) → new ≡ spread_bytes place size old
  spread_is place size same left =
      stack_is new (byte_at old.bytes) (spill_behind place (place + size) old) cells blocks (λ k lt. ap (λ bytes. byte_at bytes k) same) left

  pub pointer_is : (place : ℕ) (region : Region) (offset : ℤ) (cleared : List Spill) → IsSetTo false old.bytes new.bytes place (place + 8) →
      length cleared ≡ 64 → ((b : ℕ) → b < 64 → spill_at cleared b ≡ left_of place (place + 8) b (spill_at old.spills b)) →
      new.spills ≡ set cleared (place / 8) (Whole (place % 8) region offset) → place + 8 ≤ 512 → new ≡ put_pointer place region offset old
  pointer_is place region offset cleared s size left put fits =
      stack_is new (byte_behind false place (place + 8) old) spill cells blocks (λ k lt. byte_set false old new place (place + 8) k s)
      (λ b lt. ap (λ spills. spill_at spills b) put ∙ by_test b lt (b == place / 8) refl)
    where
      spill : ℕ → Spill
      spill b = if b == place / 8 then Whole (place % 8) region offset else spill_behind place (place + 8) old b

      by_test : (b : ℕ) → b < 64 → (t : Bool) → t ≡ (b == place / 8) →
          spill_at (set cleared (place / 8) (Whole (place % 8) region offset)) b ≡ (if t then Whole (place % 8) region offset else spill_behind place (place + 8) old b)
      by_test b lt true e =
          let same : b ≡ place / 8 = eqb-true b (place / 8) (sym e) in
          let inside : place / 8 < length cleared = omega arith in
          ap (spill_at (set cleared (place / 8) (Whole (place % 8) region offset))) same ∙ get_or-set_same cleared (place / 8) (Whole (place % 8) region offset) Free inside
      by_test b lt false e =
          get_or-set_other cleared (place / 8) b (Whole (place % 8) region offset) Free (λ same. let test = eq-eqb b (place / 8) same in cc) ∙ left b lt

-- Nothing is known.
pub no_bytes : replicate 512 false ≡ unknown_stack.bytes
no_bytes = table_is 512 (λ k. false) (replicate 512 false) false (length-replicate 512 false) (λ k lt. get_or-replicate 512 k false false lt)

pub no_spills : replicate 64 Free ≡ unknown_stack.spills
no_spills = table_is 64 (λ b. Free) (replicate 64 Free) Free (length-replicate 64 Free) (λ b lt. get_or-replicate 64 b Free Free lt)
