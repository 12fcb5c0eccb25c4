-- If a traitor or a statement is removed, the campaign is smaller.
use Rattle.std.proofs.Common.{ℕ, suc, ◌+◌, ◌<◌, ◌≤◌, ◌≡◌, length, take, drop, get_or, ap, arith, add-one, Bool, true, false, subst, sym, ⊎_elim}
use Rattle.std.proofs.lemmas.Bool.{cases_lt}
use Rattle.std.specs.Prelude.{sum_by, IfNone, IfSome, Option, None, Some}
use Rattle.std.proofs.lemmas.List.Edits.{length-remove}
use Rattle.std.proofs.lemmas.List.Sums.{sum_by-append, sum_by-drop_more, sum_by-set, sum_by-take-drop}
use Rattle.scenario.specs.declared.fault.ScenarioError.{ScenarioError}
use Rattle.surveys.specs.Judging.{IsRefused}
use Rattle.surveys.specs.Plot.{Plot, Traitor}
use Rattle.surveys.specs.Wording.{plot_text}
use Rattle.surveys.specs.Shrinking.{Comes, ComesWell, IsBroken, IsLess, IsPartOf, IsRefusedOf, IsStillBroken, without_lie, without_traitor, loyal, silent, whole, lessened, nobody, quieter, size, traitor_at}

-- How many traitors and statements a traitor counts for.
abbrev weight : Traitor → ℕ
weight t = length t.lies + 1

pub less_size : (p : Plot) {q : Plot} → IsLess p q → size q < size p
less_size p (loyal place lt) =
    let parts = sum_by-append weight (take place p.traitors) (drop (suc place) p.traitors) in
    let whole = sum_by-take-drop weight p.traitors place in
    let first : sum_by weight (drop place p.traitors) ≡ weight (get_or p.traitors place nobody) + sum_by weight (drop (place + 1) p.traitors) =
    sum_by-drop_more weight p.traitors place nobody lt in
    let next : sum_by weight (drop (place + 1) p.traitors) ≡ sum_by weight (drop (suc place) p.traitors) = ap (λ n. sum_by weight (drop n p.traitors)) (add-one place) in
    omega arith
less_size p (silent place index lt within) =
    let written = sum_by-set weight p.traitors place (quieter (traitor_at p place) index) nobody lt in
    let fewer = length-remove (traitor_at p place).lies index within in
    omega arith

-- A campaign with traitors or statements removed is not larger, and may be reduced further.
pub part_size : (p : Plot) {q : Plot} → IsPartOf p q → size q ≤ size p
part_size p whole = omega arith
part_size p (lessened q r h l) = let smaller = less_size q l in let before = part_size p h in omega arith

pub part_on : (p q : Plot) {r : Plot} → IsPartOf p q → IsPartOf q r → IsPartOf p r
part_on p q h whole = h
part_on p q h (lessened s r k l) = lessened s r (part_on p q h k) l

-- The campaign with one traitor made loyal, or without one statement, is still broken.
pub still_traitor : (p q : Plot) (place : ℕ) (b : Bool) → place < length p.traitors → q ≡ without_traitor p place → Comes b q → b ≡ false → IsStillBroken p q
still_traitor p q place b lt is c e = record { less = subst (IsLess p) (sym is) (loyal place lt); broken = subst (λ x. Comes x q) e c }

pub still_lie : (p q : Plot) (place index : ℕ) (b : Bool) → place < length p.traitors → index < length (traitor_at p place).lies → q ≡ without_lie p place index → Comes b q → b ≡ false → IsStillBroken p q
still_lie p q place index b lt within is c e = record { less = subst (IsLess p) (sym is) (silent place index lt within); broken = subst (λ x. Comes x q) e c }

pub well_so : (p q : Plot) (b : Bool) → q ≡ p → Comes b q → b ≡ true → ComesWell p
well_so p q b is c e = subst (λ x. Comes x p) e (subst (Comes b) is c)

-- What holds of all numbers below `n` and of `n` holds of all numbers below `n` + 1.
pub upto_more : (P : ℕ → Type 0) (n : ℕ) → ((k : ℕ) → k < n → P k) → P n → (k : ℕ) → k < n + 1 → P k
upto_more P n h p k lt = ⊎_elim (λ l. h k l) (λ le. subst P (same le) p) (cases_lt k n)
  where
    same : n ≤ k → n ≡ k
    same le = omega (arith, le, lt)

-- One more removal leads to another reduction of the campaign.
pub out_on : (p q r : Plot) → IsPartOf p q → IsStillBroken q r → IsBroken r × IsPartOf p r
out_on p q r h s = (s.broken, lessened q r h s.less)

-- If an option is `None`, what `IfNone` says of it holds.
pub none_of : (o : Option Plot) (P : Type 0) → o ≡ None → IfNone o P → P
none_of None P e h = h
none_of (Some q) P e h = absurd (cc)

pub some_of : (o : Option Plot) (q : Plot) (P : Plot → Type 0) → o ≡ Some q → IfSome o P → P q
some_of o q P e h = subst (λ x. IfSome x P) e h

pub less_then : (p q r : Plot) → IsStillBroken p q → IsPartOf q r → size r < size p
less_then p q r s h =
    let smaller = less_size p s.less in
    let part = part_size q h in
    omega (arith, smaller, part)

-- A fault of a campaign's text is also a fault of a reduction's text: the campaign is its own reduction.
pub refused_here : (p : Plot) (e : ScenarioError) → IsRefused (plot_text p) e → IsRefusedOf p e
refused_here p e h = record { left = p; part = whole; refused = h }

pub refused_traitor : (p q : Plot) (place : ℕ) (e : ScenarioError) → place < length p.traitors → q ≡ without_traitor p place → IsRefused (plot_text q) e → IsRefusedOf p e
refused_traitor p q place e lt is h = record { left = q; part = lessened p q whole (subst (IsLess p) (sym is) (loyal place lt)); refused = h }

pub refused_lie : (p q : Plot) (place index : ℕ) (e : ScenarioError) → place < length p.traitors → index < length (traitor_at p place).lies → q ≡ without_lie p place index → IsRefused (plot_text q) e → IsRefusedOf p e
refused_lie p q place index e lt within is h = record { left = q; part = lessened p q whole (subst (IsLess p) (sym is) (silent place index lt within)); refused = h }

pub refused_on : (p q : Plot) (e : ScenarioError) → IsPartOf p q → IsRefusedOf q e → IsRefusedOf p e
refused_on p q e part h = record { left = h.left; part = part_on p q part h.part; refused = h.refused }
