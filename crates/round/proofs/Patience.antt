-- A run within a patience, and the same run without one.
use Rattle.std.proofs.Common.{◌≡◌, ℕ, zero, suc, ◌+◌, ◌<◌, List, [], ◌∷◌, Bool, true, false, cond, refl, sym, ap, subst, ◌∙◌, Option, Some, None, arith}
use Rattle.std.specs.Prelude.{◌||◌}
use Rattle.semantics.specs.State.{Outcome, Next, Ask, Exit, Trap}
use Rattle.semantics.specs.Execution.{step}
use Rattle.board.specs.Board.{Access}
use Rattle.round.specs.Activation.{Activation, Turn, Goes, Asks, Ended, turned, turn, is_reached}
use Rattle.round.specs.Runs.{Onward, Runs, IsWithin}
use Rattle.std.proofs.lemmas.Bool.{leb-false, lt-leb}
use Rattle.semantics.specs.Call.{resumed}
use Rattle.semantics.proofs.StepLaws.{step_counts}
use Rattle.round.proofs.Stepping.{CountsTurn, turned_counts, runs_steps}

-- Returns the same activation with another patience.
abbrev pub under : Option ℕ → Activation → Activation
under p a = record a { patience = p }

-- States that its next turn is the same.
abbrev Likewise : Option ℕ → Turn → Turn → Type 0
Likewise p (Goes a) o = o ≡ Goes (under p a)
Likewise p (Asks q f) o = o ≡ Asks q (λ r. under p (f r))
Likewise p Ended o = Unit {0}

turned_likewise : (p : Option ℕ) (a : Activation) (o : Outcome) → Likewise p (turned a o) (turned (under p a) o)
turned_likewise p a (Next s) = refl
turned_likewise p a (Ask q s) = refl
turned_likewise p a (Exit r0 s) = refl
turned_likewise p a (Trap cause) = refl

-- The turns are the same until the other patience is used up.
turn_likewise : (p : Option ℕ) (a : Activation) → (a.over ≡ false → is_reached p a.state.steps ≡ false) → Likewise p (turn a) (turn (under p a))
turn_likewise p a h = by a.over (is_reached a.patience a.state.steps) (is_reached p a.state.steps) h
  where
    by : (b x y : Bool) → (b ≡ false → y ≡ false)
        → Likewise p (cond (b || x) Ended (turned a (step a.program a.context a.relay a.state))) (cond (b || y) Ended (turned (under p a) (step a.program a.context a.relay a.state)))
    by true x y h = tt
    by false true y h = tt
    by false false true h = absurd (let e : true ≡ false = h refl in cc)
    by false false false h = turned_likewise p a (step a.program a.context a.relay a.state)

abbrev Again : Option ℕ → ℕ → Turn → Turn → Type 0
Again p k o o' = (t : List Access) (end : Activation) → Onward (Runs k) o t end → Onward (Runs k) o' t (under p end)

onward_by : (p : Option ℕ) (k : ℕ) (o o' : Turn) (t : List Access) (end : Activation) → Likewise p o o'
    → ((b : Activation) (t' : List Access) → Runs k b t' end → Runs k (under p b) t' (under p end))
    → Onward (Runs k) o t end → Onward (Runs k) o' t (under p end)
onward_by p k (Goes b) o' t end like again h = (let A : Turn → Type 0 = λ v. Onward (Runs k) v t (under p end) in subst A (sym like) (again b t h))
onward_by p k (Asks q f) o' [] end like again h = absurd h
onward_by p k (Asks q f) o' (x ∷ t) end like again h = (let A : Turn → Type 0 = λ v. Onward (Runs k) v (x ∷ t) (under p end) in subst A (sym like) (h.0, again (f x.reply) t h.1))
onward_by p k Ended o' t end like again h = absurd h

not_reached : (p : Option ℕ) (n m : ℕ) → n < m → IsWithin p m → is_reached p n ≡ false
not_reached None n m lt w = refl
not_reached (Some p) n m lt w = lt-leb p n (omega arith)

pub runs_under : (p : Option ℕ) (k : ℕ) (a : Activation) (t : List Access) (end : Activation) → IsWithin p end.state.steps → Runs k a t end → Runs k (under p a) t (under p end)
runs_under p zero a t end w h = (h.0, ap (under p) h.1)
runs_under p (suc k) a t end w h =
    let steps = runs_steps (suc k) a t end h in
    onward_by p k (turn a) (turn (under p a)) t end (turn_likewise p a (λ on. not_reached p a.state.steps end.state.steps (omega arith) w))
    (λ b t' h'. runs_under p k b t' end w h') h

-- A run takes at most as many steps as its patience allows.
within_begin : (p : Option ℕ) (n m : ℕ) → m ≡ n + 1 → is_reached p n ≡ false → IsWithin p m
within_begin None n m e f = tt
within_begin (Some p) n m e f = (let l = leb-false p n f in omega arith)

abbrev Keeps : Activation → Turn → Type 0
Keeps a (Goes b) = (b.patience ≡ a.patience) × IsWithin a.patience b.state.steps
Keeps a (Asks q f) = (r : List ℕ) → ((f r).patience ≡ a.patience) × IsWithin a.patience (f r).state.steps
Keeps a Ended = Unit {0}

turned_keeps : (a : Activation) (o : Outcome) → is_reached a.patience a.state.steps ≡ false → CountsTurn a (turned a o) → Keeps a (turned a o)
turned_keeps a (Next s) e c = (refl, within_begin a.patience a.state.steps s.steps c e)
turned_keeps a (Ask q s) e c = λ r. (refl, within_begin a.patience a.state.steps (resumed q r s).steps (c r) e)
turned_keeps a (Exit r0 s) e c = (refl, within_begin a.patience a.state.steps s.steps c e)
turned_keeps a (Trap cause) e c = (refl, within_begin a.patience a.state.steps (a.state.steps + 1) refl e)

turn_keeps : (a : Activation) → Keeps a (turn a)
turn_keeps a = by a.over (is_reached a.patience a.state.steps) refl
  where
    by : (b x : Bool) → is_reached a.patience a.state.steps ≡ x → Keeps a (cond (b || x) Ended (turned a (step a.program a.context a.relay a.state)))
    by true x e = tt
    by false true e = tt
    by false false e =
        let o = step a.program a.context a.relay a.state in
        turned_keeps a o e (turned_counts a o (step_counts a.program a.context a.relay a.state))

-- States that the patience stays the same and is kept.
abbrev pub Kept : Option ℕ → Activation → Type 0
Kept p a = (a.patience ≡ p) × IsWithin p a.state.steps

kept_by : (p : Option ℕ) (k : ℕ) (a : Activation) (o : Turn) (t : List Access) (end : Activation) → a.patience ≡ p → Keeps a o
    → ((b : Activation) (t' : List Access) → Kept p b → Runs k b t' end → Kept p end) → Onward (Runs k) o t end → Kept p end
kept_by p k a (Goes b) t end is keeps again h = again b t (keeps.0 ∙ is, (let A : Option ℕ → Type 0 = λ q. IsWithin q b.state.steps in subst A is keeps.1)) h
kept_by p k a (Asks q f) [] end is keeps again h = absurd h
kept_by p k a (Asks q f) (x ∷ t) end is keeps again h =
    let b = f x.reply in
    again b t ((keeps x.reply).0 ∙ is, (let A : Option ℕ → Type 0 = λ o. IsWithin o b.state.steps in subst A is (keeps x.reply).1)) h.1
kept_by p k a Ended t end is keeps again h = absurd h

pub runs_kept : (p : Option ℕ) (k : ℕ) (a : Activation) (t : List Access) (end : Activation) → Kept p a → Runs k a t end → Kept p end
runs_kept p zero a t end w h = (let A : Activation → Type 0 = λ b. Kept p b in subst A h.1 w)
runs_kept p (suc k) a t end w h = kept_by p k a (turn a) t end w.0 (turn_keeps a) (λ b t' w' h'. runs_kept p k b t' end w' h') h

pub within_none : (p : Option ℕ) → IsWithin p 0
within_none None = tt
within_none (Some p) = omega arith
