-- An activation while it runs, with the accesses that it has made.
use Rattle.std.proofs.Common.{◌≡◌, ℕ, zero, suc, ◌≤◌, List, [], ◌∷◌, ◌++◌, true, refl, sym, ap, subst, ◌∙◌, Option, Some, None, arith, append-nil}
use Rattle.std.specs.Option.{option_to_list}
use Rattle.std.specs.Prelude.{◌||◌}
use Rattle.insn.specs.declared.insn.Insn.{Insn}
use Rattle.semantics.specs.Relay.{IsContext, Relay, Oral}
use Rattle.semantics.specs.Call.{fits}
use Rattle.board.specs.Board.{Access}
use Rattle.round.specs.Activation.{Activation, Turn, Goes, Asks, Ended, turn, started, has_ended, is_reached}
use Rattle.round.specs.Contexts.{IsToldTo, shape_told, tells_oral}
use Rattle.round.specs.Letters.{Letter}
use Rattle.round.specs.Runs.{Onward, Runs, AreFitting, IsWithin, IsLetter}
use Rattle.round.specs.Running.{TakesTurn, IsSameRun, Silently, AreAccessesOf, IsOnWay, IsLivedIn, letter_left}
use Rattle.round.proofs.Patience.{under, runs_under}
use Rattle.round.proofs.Fitting.{fitting_more}
use Rattle.round.proofs.Stepping.{runs_steps}
use Rattle.round.proofs.Runnings.{StopsAt, Runs-snoc}

-- A run is continued by another run.
append_by : (o : Turn) (k : ℕ) (t more : List Access) (u v : Activation) → ((s : Activation) (t' : List Access) → Runs k s t' u → (n : ℕ) × Runs n s (t' ++ more) v) → Onward (Runs k) o t u → (n : ℕ) × Onward (Runs n) o (t ++ more) v
append_by (Goes s) k t more u v again h = again s t h
append_by (Asks q f) k [] more u v again h = absurd h
append_by (Asks q f) k (a ∷ t) more u v again h = let rest = again (f a.reply) t h.1 in (rest.0, (h.0, rest.1))
append_by Ended k t more u v again h = absurd h

pub runs_append : (k j : ℕ) (s : Activation) (t more : List Access) (u v : Activation) → Runs k s t u → Runs j u more v → (n : ℕ) × Runs n s (t ++ more) v
runs_append zero j s t more u v a b =
    (j, subst (λ (x : Activation). Runs j x (t ++ more) v) (sym a.1) (subst (λ (l : List Access). Runs j u (l ++ more) v) (sym a.0) b))
runs_append (suc k) j s t more u v a b =
    let rest = append_by (turn s) k t more u v (λ s' t' h. runs_append k j s' t' more u v h b) a in
    (suc rest.0, rest.1)

-- A turn that was taken.
turn_taken : (o : Turn) (access : Option Access) (new : Activation) → TakesTurn o access new → Onward StopsAt o (option_to_list access) new
turn_taken (Goes b) None new h = (refl, sym h)
turn_taken (Goes b) (Some x) new h = absurd h
turn_taken (Asks q f) (Some x) new h = (h.0, (refl, sym h.1))
turn_taken (Asks q f) None new h = absurd h
turn_taken Ended access new h = absurd h

-- An empty list has only the general's accesses.
pub all_none : (general round : ℕ) → AreAccessesOf general round []
all_none general round k d lt = absurd (omega arith)

all_more : (general round : ℕ) (t : List Access) (x : Access) → AreAccessesOf general round t → (x.general ≡ general) × (x.round ≡ round) → AreAccessesOf general round (t ++ x ∷ [])
all_more general round [] x h own zero d lt = own
all_more general round [] x h own (suc k) d lt = absurd (omega arith)
all_more general round (y ∷ t) x h own zero d lt = h zero d (omega arith)
all_more general round (y ∷ t) x h own (suc k) d lt = all_more general round t x (λ j e l. h (suc j) e (omega arith)) own k d (omega arith)

pub same_run_on : (a b c : Activation) → IsSameRun a b → IsSameRun b c → IsSameRun a c
same_run_on a b c h k = record { program = k.program ∙ h.program; context = k.context ∙ h.context; relay = k.relay ∙ h.relay; patience = k.patience ∙ h.patience }

-- One turn is taken, and then turns that are no requests.
run_on : (start a mid b : Activation) (t : List Access) (access : Option Access) → (k : ℕ) × Runs k start t a → TakesTurn (turn a) access mid → Silently mid b → (n : ℕ) × Runs n start (t ++ option_to_list access) b
run_on start a mid b t access run turn_is went =
    let all = runs_append (suc run.0) went.0 start (t ++ option_to_list access) [] mid b (Runs-snoc run.0 start t (option_to_list access) a mid run.1 (turn_taken (turn a) access mid turn_is)) went.1 in
    (all.0, subst (λ (l : List Access). Runs all.0 start l b) (append-nil (t ++ option_to_list access)) all.1)

pub on_silently : (general round : ℕ) (start a mid b : Activation) (t : List Access) → IsOnWay general round start a t → TakesTurn (turn a) None mid → IsSameRun a mid → Silently mid b → IsSameRun mid b → IsOnWay general round start b t
on_silently general round start a mid b t h turn_is same went further =
    let all = run_on start a mid b t None h.run turn_is went in
    record {
      same = same_run_on start mid b (same_run_on start a mid h.same same) further;
      run = (all.0, subst (λ (l : List Access). Runs all.0 start l b) (append-nil t) all.1);
      own = h.own;
      fitting = h.fitting;
    }

pub on_served : (general round : ℕ) (start a mid b : Activation) (t : List Access) (x : Access) → IsOnWay general round start a t → TakesTurn (turn a) (Some x) mid → (x.general ≡ general) × (x.round ≡ round) → fits x.request x.reply ≡ true → IsSameRun a mid → Silently mid b → IsSameRun mid b → IsOnWay general round start b (t ++ x ∷ [])
on_served general round start a mid b t x h turn_is own fit same went further = record {
  same = same_run_on start mid b (same_run_on start a mid h.same same) further;
  run = run_on start a mid b t (Some x) h.run turn_is went;
  own = all_more general round t x h.own own;
  fitting = fitting_more t x h.fitting fit;
}

pub silently_later : (a b : Activation) → Silently a b → a.state.steps ≤ b.state.steps
silently_later a b went = (let e = runs_steps went.0 a [] b went.1 in omega arith)

pub way_begins : (general round : ℕ) (a : Activation) (t : List Access) → t ≡ [] → IsOnWay general round a a t
way_begins general round a t none = record {
  same = record { program = refl; context = refl; relay = refl; patience = refl };
  run = (0, (none, refl));
  own = subst (λ (l : List Access). AreAccessesOf general round l) (sym none) (all_none general round);
  fitting = subst (λ (l : List Access). AreFitting l) (sym none) tt;
}

-- The same run without a patience.
run_without : (patience : Option ℕ) (program : List Insn) (context : List ℕ) (relay : Relay) (t : List Access) (a : Activation) → (k : ℕ) × Runs k (started patience program context relay) t a → Runs a.state.steps (started None program context relay) t (under None a)
run_without patience program context relay t a run =
    let counted : a.state.steps ≡ run.0 = let e = runs_steps run.0 (started patience program context relay) t a run.1 in omega arith in
    subst (λ (n : ℕ). Runs n (started None program context relay) t (under None a)) (sym counted) (runs_under None run.0 (started patience program context relay) t a tt run.1)

-- A letter is made from the activation in its current state.
pub letter_of_run : (general round : ℕ) (t : List Access) (a : Activation) → IsContext a.context → IsToldTo general round a.context → a.relay.shape ≡ shape_told general round a.context → (tells_oral a.context → a.relay.kind ≡ Oral) → AreFitting t
    → (k : ℕ) × Runs k (started a.patience a.program a.context a.relay) t a → IsLetter (letter_left general round t a)
letter_of_run general round t a context own shape kind fit run = record {
  context = context;
  own = own;
  shape = shape;
  kind = kind;
  run = (fit, under None a, run_without a.patience a.program a.context a.relay t a run, refl, refl, refl);
}

-- A running activation, given by its contents.
pub own_run : (general round : ℕ) (program : List Insn) (context : List ℕ) (patience : Option ℕ) (relay : Relay) (t : List Access) (a : Activation) → IsOnWay general round (started patience program context relay) a t → (k : ℕ) × Runs k (started a.patience a.program a.context a.relay) t a
own_run general round program context patience relay t a way =
    let s = way.same in
    (way.run.0, subst (λ (x : Activation). Runs way.run.0 x t a) (λ i. started (sym s.patience i) (sym s.program i) (sym s.context i) (sym s.relay i)) way.run.1)

-- The letter of an activation that has ended.
pub lived : (general round : ℕ) (program : List Insn) (context : List ℕ) (patience : Option ℕ) (relay : Relay) (t : List Access) (a : Activation) (l : Letter) → IsWithin a.patience a.state.steps →
    IsOnWay general round (started patience program context relay) a t → has_ended a ≡ true → l ≡ letter_left general round t a → IsLivedIn general round program context relay patience l
lived general round program context patience relay t a l within way ended is =
    let s = way.same in
    subst (λ (x : Letter). IsLivedIn general round program context relay patience x) (sym is)
    (record {
      own_general = refl;
      own_round = refl;
      own_context = s.context;
      own_program = ap (λ (p : List Insn). Some p) s.program;
      own_relay = s.relay;
      run = (
        way.fitting,
        under None a,
        subst (λ (x : Activation). Runs a.state.steps x t (under None a)) (λ i. started None program (sym s.context i) (sym s.relay i)) (run_without patience program context relay t a way.run),
        refl,
        refl,
        refl,
      );
      accesses = way.own;
      within = subst (λ (p : Option ℕ). IsWithin p a.state.steps) s.patience within;
      ended = ap (λ (p : Option ℕ). a.over || is_reached p a.state.steps) (sym s.patience) ∙ ended;
    })
