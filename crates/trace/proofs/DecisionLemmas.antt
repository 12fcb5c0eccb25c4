-- The lines of the decisions are written, one lieutenant at a time.
use Rattle.std.proofs.Common.{◌≡◌, ◌≢◌, ℕ, zero, suc, ◌+◌, ◌-◌, ◌<◌, ◌≤◌, arith, Bool, not, List, [], ◌∷◌, ◌++◌, drop, refl, sym, ap, subst, ◌∙◌, append_assoc, append-nil, Option}
use Rattle.std.specs.Prelude.{filter, slice_get}
use Rattle.label.specs.Labels.{on}
use Rattle.label.specs.Lieutenants.{lieutenants}
use Rattle.round.specs.Scenario.{Scenario}
use Rattle.trace.specs.Sinks.{Wrote}
use Rattle.trace.specs.Text.{Line, text, decision_lines}
use Rattle.trace.specs.Lines.{decided_lines}
use Rattle.trace.proofs.WrittenLemmas.{wrote-nothing}
use Rattle.trace.proofs.RoundLemmas.{then_lines}
use Rattle.world.proofs.Counted.{range_none, from_commander, from_lieutenant, from}

-- The lieutenants from a general on.

-- States that the lines of the lieutenants below `g` are written, and that the next lieutenant's decision is at index
-- `place`.
pub record HasTold (s : Scenario) (ds : List ℕ) (g place : ℕ) (a : Option (List ℕ)) (f : Bool) (b : Option (List ℕ)) (h : Bool) : Type 0 where
  pub lines : List Line
  pub behind : place ≤ g
  pub wrote : Wrote a f (text lines) b h
  pub same : lines ++ decision_lines s (from s.generals s.commander g) (drop place ds) ≡ decision_lines s (lieutenants s.generals s.commander) ds

pub told_none : (s : Scenario) (ds : List ℕ) (a : Option (List ℕ)) (f : Bool) → HasTold s ds 0 0 a f a f
told_none s ds a f = record { lines = []; behind = omega arith; wrote = wrote-nothing; same = (let e : s.generals - 0 ≡ s.generals = omega arith in rw e refl) }

pub told_commander : {s : Scenario} {ds : List ℕ} {g place : ℕ} {a b : Option (List ℕ)} {f h : Bool} → HasTold s ds g place a f b h → g < s.generals → g ≡ s.commander → HasTold s ds (g + 1) place a f b h
told_commander {s} {ds} {g} {place} t l e = record {
  lines = t.lines;
  behind = (let k = t.behind in omega arith);
  wrote = t.wrote;
  same = ap (λ gs. t.lines ++ decision_lines s gs (drop place ds)) (sym (from_commander s.generals s.commander g l e)) ∙ t.same;
}

none-lines : (s : Scenario) (gs : List ℕ) → decision_lines s gs [] ≡ []
none-lines s [] = refl
none-lines s (g ∷ gs) = refl

-- One more lieutenant's line is written.
one_more : (s : Scenario) (g : ℕ) (gs ds : List ℕ) (place : ℕ) → decision_lines s (g ∷ gs) (drop place ds) ≡ decided_lines s g (slice_get ds place) ++ decision_lines s gs (drop (suc place) ds)
one_more s g gs [] zero = sym (none-lines s gs)
one_more s g gs [] (suc place) = sym (none-lines s gs)
one_more s g gs (d ∷ ds) zero = refl
one_more s g gs (d ∷ ds) (suc place) = one_more s g gs ds place

pub told_more : {s : Scenario} {ds : List ℕ} {g place : ℕ} {a b c : Option (List ℕ)} {f h k : Bool} {o : Option ℕ} → HasTold s ds g place a f b h → g < s.generals → g ≢ s.commander
    → o ≡ slice_get ds place → Wrote b h (text (decided_lines s g o)) c k → HasTold s ds (g + 1) (place + 1) a f c k
told_more {s} {ds} {g} {place} {a} {b} {c} {f} {h} {k} {o} t l ne is said =
    let w : Wrote b h (text (decided_lines s g (slice_get ds place))) c k = subst (λ (p : Option ℕ). Wrote b h (text (decided_lines s g p)) c k) is said in
    let mine : List Line = decided_lines s g (slice_get ds place) in
    let rest : List Line = decision_lines s (from s.generals s.commander (g + 1)) (drop (suc place) ds) in
    let p : suc place ≡ place + 1 = omega arith in
    let here : decision_lines s (from s.generals s.commander g) (drop place ds) ≡ mine ++ rest =
    ap (λ gs. decision_lines s gs (drop place ds)) (from_lieutenant s.generals s.commander g l ne) ∙ one_more s g (from s.generals s.commander (g + 1)) ds place in
    record {
      lines = t.lines ++ mine;
      behind = (let q = t.behind in omega arith);
      wrote = then_lines t.lines mine (t.lines ++ mine) refl t.wrote w;
      same = subst (λ (q : ℕ). (t.lines ++ mine) ++ decision_lines s (from s.generals s.commander (g + 1)) (drop q ds) ≡ decision_lines s (lieutenants s.generals s.commander) ds) p (append_assoc t.lines mine rest ∙ (ap (λ ls. t.lines ++ ls) (sym here) ∙ t.same));
    }

pub told_all : {s : Scenario} {ds : List ℕ} {g place : ℕ} {a b : Option (List ℕ)} {f h : Bool} → HasTold s ds g place a f b h → s.generals ≤ g → Wrote a f (text (decision_lines s (lieutenants s.generals s.commander) ds)) b h
told_all {s} {ds} {g} {place} {a} {b} {f} {h} t l =
    let e : from s.generals s.commander g ≡ [] = ap (filter (λ j. not (on (s.commander ∷ []) j))) (range_none s.generals g l) in
    let all : t.lines ≡ decision_lines s (lieutenants s.generals s.commander) ds = sym (append-nil t.lines) ∙ (ap (λ gs. t.lines ++ decision_lines s gs (drop place ds)) (sym e) ∙ t.same) in
    subst (λ ls. Wrote a f (text ls) b h) all t.wrote
