-- Lists by their items.
use Rattle.std.proofs.Common.{◌≡◌, ◌∙◌, ℕ, zero, suc, ◌+◌, ◌<◌, ◌≤◌, List, length, get_or, set, drop, arith, sym, subst, length-drop}
use Rattle.std.proofs.lemmas.List.{ext_get_or, get_or-drop, get_or_default}
use Rattle.absval.specs.declared.value.AbsVal.{AbsVal}
use Rattle.absval.specs.declared.number_set.NumberSet.{NumberSet}
use Rattle.absmem.proofs.TableLaws.{table_is}
use Rattle.verify.specs.Registers.{known_at, joined_all}
use Rattle.absval.specs.Table.{joined}
use Rattle.verify.specs.Calls.{known_behind}
use Rattle.verify.proofs.Zips.{at_set}
use Rattle.absval.specs.declared.value.AbsVal.TheVariants.{Unset, Number}

-- The first n registers are joined.
abbrev pub Joins : List AbsVal → List AbsVal → List AbsVal → ℕ → Type 0
Joins old other new n = (r : ℕ) → r < n → known_at new r ≡ joined (known_at old r) (known_at other r)

pub join_step : (xs before other : List AbsVal) (i : ℕ) (x u v : AbsVal) → i < length xs → i < length other → get_or xs i Unset ≡ get_or before i Unset →
    x ≡ joined (get_or xs i u) (get_or other i v) → Joins before other xs i → Joins before other (set xs i x) (i + 1)
join_step xs before other i x u v l m rest made so_far = λ k h.
    at_set (λ (a : AbsVal). a ≡ joined (known_at before k) (known_at other k)) xs i k x Unset l
    (λ e. rw (e, ← rest, get_or_default other i Unset v m, get_or_default xs i Unset u l) made) (λ n. so_far k (omega arith))

-- Registers that are joined one by one.
pub joins_all : (old other new : List AbsVal) → length new ≡ 11 → Joins old other new 11 → new ≡ joined_all old other
joins_all old other new long joins =
    table_is 11 (λ r. joined (known_at old r) (known_at other r)) new Unset long joins

-- The registers after a call.
pub behind_whole : (numbers : NumberSet) (old new : List AbsVal) → length old ≡ 11 → length new ≡ 11 → get_or new 0 Unset ≡ Number numbers →
    ((r : ℕ) → 1 ≤ r → r ≤ 5 → get_or new r Unset ≡ Unset) → ((r : ℕ) → 6 ≤ r → get_or new r Unset ≡ get_or old r Unset) → new ≡ known_behind numbers old
behind_whole numbers old new before after first unset others = ext_get_or Unset new (known_behind numbers old) same (λ k lt. at k)
  where
    same : length new ≡ length (known_behind numbers old)
    same = let rest = length-drop 6 old in omega (arith, before, rest, after)

    at : (k : ℕ) → get_or new k Unset ≡ get_or (known_behind numbers old) k Unset
    at zero = first
    at (suc zero) = unset 1 (omega arith) (omega arith)
    at (suc (suc zero)) = unset 2 (omega arith) (omega arith)
    at (suc (suc (suc zero))) = unset 3 (omega arith) (omega arith)
    at (suc (suc (suc (suc zero)))) = unset 4 (omega arith) (omega arith)
    at (suc (suc (suc (suc (suc zero))))) = unset 5 (omega arith) (omega arith)
    at (suc (suc (suc (suc (suc (suc k)))))) =
        let there : 6 + k ≡ suc (suc (suc (suc (suc (suc k))))) = omega arith in
        subst (λ (j : ℕ). get_or new j Unset ≡ get_or (drop 6 old) k Unset) there (others (6 + k) (omega arith) ∙ sym (get_or-drop 6 old k Unset))
