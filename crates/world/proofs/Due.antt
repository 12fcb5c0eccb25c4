-- Activations of sound programs neither trap nor take more steps than the program has instructions.
use Rattle.std.proofs.Common.{◌≡◌, ℕ, zero, suc, ◌+◌, ◌<◌, ◌≤◌, List, [], ◌∷◌, length, Bool, true, false, cond, refl, sym, ap, subst, ◌∙◌, Option, Some, None, arith}
use Rattle.insn.specs.declared.insn.Insn.{Insn}
use Rattle.semantics.specs.declared.request.Request.{Request}
use Rattle.semantics.specs.Call.{fits}
use Rattle.semantics.proofs.SafetyLaws.{safe_of_sound}
use Rattle.round.specs.Scenario.{Scenario, program_of}
use Rattle.round.specs.Letters.{Letter}
use Rattle.round.specs.Activation.{Activation, Turn, Goes, Asks, Ended, turn}
use Rattle.world.specs.Part.{Progress, Acting, Silent, Posted}
use Rattle.world.specs.Kind.{Kind, begins, each}
use Rattle.world.proofs.Listing.{each-get_only}
use Rattle.world.proofs.Moves.{AllParts, IsLasting}
use Rattle.round.proofs.Going.{IsGoing, IsAfter, TurnsTo, turn_safe, going_zero, over_ended}
use Rattle.world.specs.Campaigns.{IsCampaign}

-- States that the activation runs its general's program, and that it is safe for its remaining steps.
pub record IsDue (s : Scenario) (g : ℕ) (a : Activation) : Type 0 where
  pub program : program_of s g ≡ Some a.program
  pub left : ℕ
  pub within : left + a.state.steps ≤ length a.program
  pub going : IsGoing left a

-- Such an activation has taken at most as many steps as its program has instructions.
pub due_few : (s : Scenario) (g : ℕ) (a : Activation) → IsDue s g a → a.state.steps ≤ length a.program
due_few s g a d = (let l = d.within in omega arith)

abbrev pub Due : Scenario → ℕ → Progress → Type 0
Due s g (Acting a) = IsDue s g a
Due s g Silent = Unit {0}
Due s g Posted = Unit {0}

-- A turn keeps this property.
pub due_after : (s : Scenario) (g n : ℕ) (a b : Activation) → program_of s g ≡ Some a.program → suc n + a.state.steps ≤ length a.program → IsAfter n a b → IsDue s g b
due_after s g n a b is within after = record {
  program = is ∙ ap Some (sym after.program);
  left = n;
  within = (let e = after.steps in let p = ap length after.program in omega arith);
  going = after.going;
}

due_goes : (s : Scenario) (g : ℕ) (a b : Activation) → IsDue s g a → turn a ≡ Goes b → IsDue s g b
due_goes s g a b d e = by d.left d.within d.going
  where
    by : (n : ℕ) → n + a.state.steps ≤ length a.program → IsGoing n a → IsDue s g b
    by zero within going = absurd (let f : Ended ≡ Goes b = sym (over_ended a (going_zero a going)) ∙ e in cc)
    by (suc n) within going = (let A : Turn → Type 0 = λ o. TurnsTo n a o in due_after s g n a b d.program within (subst A e (turn_safe n a going)))

due_asks : (s : Scenario) (g : ℕ) (a : Activation) (q : Request) (f : List ℕ → Activation) (r : List ℕ) → IsDue s g a → turn a ≡ Asks q f → fits q r ≡ true → IsDue s g (f r)
due_asks s g a q f r d e fit = by d.left d.within d.going
  where
    by : (n : ℕ) → n + a.state.steps ≤ length a.program → IsGoing n a → IsDue s g (f r)
    by zero within going = absurd (let h : Ended ≡ Asks q f = sym (over_ended a (going_zero a going)) ∙ e in cc)
    by (suc n) within going = (let A : Turn → Type 0 = λ o. TurnsTo n a o in due_after s g n a (f r) d.program within ((subst A e (turn_safe n a going)) r fit))

pub due_lasts : (s : Scenario) → IsLasting (Due s)
due_lasts s = record { goes = due_goes s; asks = due_asks s; posts = λ g h. tt }

module _ (K : Kind) where
  due_begins : (s : Scenario) (closed : List (List Letter)) (g : ℕ) → IsCampaign K s → g < s.generals → length closed ≤ s.bound → (o : Option (List Insn)) → program_of s g ≡ o → Due s g (begins K s closed g o)
  due_begins s closed g is lt le None e = tt
  due_begins s closed g is lt le (Some p) e = record {
    program = e;
    left = length p;
    within = omega arith;
    going = λ on. safe_of_sound p (K.context s closed g) (K.relay s closed g) (is.scenario.sound g p e) (is.context closed g lt le) (is.relay closed g lt le);
  }

  -- All activations have it when a round begins.
  pub due_parts : (s : Scenario) (closed : List (List Letter)) (b : Bool) → IsCampaign K s → (b ≡ true → length closed ≤ s.bound) → AllParts (Due s) (cond b (each s.generals (λ g. begins K s closed g (program_of s g) ∷ [])) [])
  due_parts s closed true is le g part e =
      let h = each-get_only s.generals (λ g. begins K s closed g (program_of s g)) g part e in
      (let A : Progress → Type 0 = λ p. Due s g p in subst A (sym h.1) (due_begins s closed g is h.0 (le refl) (program_of s g) refl))
  due_parts s closed false is le g part e = cc
