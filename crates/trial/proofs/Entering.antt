-- The accesses of a trial, recorded one after another.
use Rattle.std.proofs.Common.{◌≡◌, ◌∙◌, ℕ, zero, suc, ◌+◌, ◌-◌, ◌<◌, ◌≤◌, List, [], ◌∷◌, ◌++◌, append-nil, append_assoc, sym, ap, subst, length, refl, arith}
use Rattle.std.proofs.lemmas.List.{append_cancel_left}
use Rattle.insn.specs.declared.insn.Insn.{Insn}
use Rattle.label.specs.declared.shape.Shape.{Shape}
use Rattle.semantics.specs.Relay.{Relay, oral}
use Rattle.semantics.specs.declared.request.Request.{Request}
use Rattle.semantics.specs.State.{State, Outcome, Next, Ask, Exit, entry}
use Rattle.semantics.specs.Outbox.{empty_outbox}
use Rattle.semantics.specs.Call.{resumed}
use Rattle.semantics.specs.Execution.{step}
use Rattle.semantics.specs.Whole.{CountsOnce}
use Rattle.semantics.proofs.StepLaws.{step_counts, resumed_counts}
use Rattle.board.specs.Board.{Access, reply, next}
use Rattle.board.specs.Ledger.{RecordedBoard}
use Rattle.semantics.specs.Reached.{Reached}
use Rattle.machine.specs.Standing.{Standing, before}
use Rattle.machine.specs.Advance.{IsAskOfRun, IsOfRun, Leads, Requests, Exits}
use Rattle.trial.specs.Setting.{Setting, context_in}
use Rattle.trial.specs.Trial.{EntersFirst, ServesOne, accesses, accesses_in, accesses_on, entered}
use Rattle.trial.proofs.Owning.{one_more, serves_none}
use Rattle.trial.proofs.Serving.{IsServing, leads_counts, served_from, serves_on}

-- States that the accesses recorded so far and the further ones are the trial's, after those that the board had at
-- the start.
abbrev pub Enters : List Insn → List ℕ → Relay → RecordedBoard → Standing → RecordedBoard → Type 0
Enters program context relay opened a b =
    b.ledger ++ accesses program context relay (length program - a.state.steps) b.words a.state
    ≡ opened.ledger ++ accesses_on opened.words program context relay

enters_from : (program : List Insn) (context : List ℕ) (relay : Relay) (b : RecordedBoard) (a : Standing) → a.state ≡ entry (empty_outbox relay) → Enters program context relay b a b
enters_from program context relay b a begun =
    let all : length program - 0 ≡ length program = omega arith in
    rw (begun) (ap (λ (k : ℕ). b.ledger ++ accesses program context relay k b.words (entry (empty_outbox relay))) all)

-- States that so far a run has made only accesses of this general in this round, all recorded, and the further part
-- of its trial is still to come.
pub record IsServed (program : List Insn) (context : List ℕ) (shape : Shape) (opened : RecordedBoard) (a : Standing) (b : RecordedBoard) : Type 0 where
  pub serving : IsServing program context (oral shape) opened.words a b
  pub own : ServesOne shape opened b
  pub entered : Enters program context (oral shape) opened a b

pub served_none : (program : List Insn) (context : List ℕ) (shape : Shape) (b : RecordedBoard) (a : Standing) → IsOfRun program context a → a.relay ≡ oral shape → a.state ≡ entry (empty_outbox (oral shape))
    → IsServed program context shape b a b
served_none program context shape b a run same begun = record {
  serving = served_from program context (oral shape) b.words a b run same refl begun;
  own = serves_none shape b;
  entered = enters_from program context (oral shape) b a begun;
}

-- Proves that a step without a request makes no access.
pub accesses_next : (program : List Insn) (context : List ℕ) (relay : Relay) (k : ℕ) (words : List ℕ) (s t : State) → step program context relay s ≡ Next t
    → accesses program context relay (suc k) words s ≡ accesses program context relay k words t
unfolding accesses
accesses_next program context relay k words s t e = ap (λ (o : Outcome). entered relay.shape (λ left u. accesses program context relay k left u) words o) e

pub accesses_asks : (program : List Insn) (context : List ℕ) (relay : Relay) (k : ℕ) (words : List ℕ) (s t : State) (request : Request) → step program context relay s ≡ Ask request t
    → accesses program context relay (suc k) words s
    ≡ record { general = relay.shape.general; round = relay.shape.round; request = request; reply = reply words request } ∷ accesses program context relay k (next words request) (resumed request (reply words request) t)
unfolding accesses
accesses_asks program context relay k words s t request e = ap (λ (o : Outcome). entered relay.shape (λ left u. accesses program context relay k left u) words o) e

pub accesses_exits : (program : List Insn) (context : List ℕ) (relay : Relay) (k : ℕ) (words : List ℕ) (s out : State) (r0 : ℕ) → step program context relay s ≡ Exit r0 out → accesses program context relay (suc k) words s ≡ []
unfolding accesses
accesses_exits program context relay k words s out r0 e = ap (λ (o : Outcome). entered relay.shape (λ left u. accesses program context relay k left u) words o) e

-- Proves that several steps without a request make no access.
accesses_lead : (program : List Insn) (context : List ℕ) (relay : Relay) (n : ℕ) (words : List ℕ) (s t : State) → Leads program context relay n s t → t.steps < length program
    → accesses program context relay (length program - s.steps) words s ≡ accesses program context relay (length program - t.steps) words t
accesses_lead program context relay zero words s t same lt = ap (λ (u : State). accesses program context relay (length program - u.steps) words u) same
accesses_lead program context relay (suc n) words s t (u, is, more) lt =
    let counted : u.steps ≡ s.steps + 1 = subst (λ (o : Outcome). CountsOnce s o) is (step_counts program context relay s) in
    let few : u.steps ≤ t.steps = leads_counts program context relay n u t more in
    let left : length program - s.steps ≡ suc (length program - u.steps) = omega arith in
    ap (λ (k : ℕ). accesses program context relay k words s) left
    ∙ (accesses_next program context relay (length program - u.steps) words s u is
    ∙ accesses_lead program context relay n words u t more lt)

-- Proves that the board records one more access.
pub enters_on : (program : List Insn) (context : List ℕ) (shape : Shape) (limit : ℕ) (a v t : Standing) (opened b d : RecordedBoard) (opening : List ℕ) (request : Request) (words : List ℕ) (s : IsServing program context (oral shape) opening a b)
    → Enters program context (oral shape) opened a b → limit ≤ length program → Requests program context a.relay s.of_run.answers limit a.state request v → t.state ≡ resumed request words v.state
    → words ≡ reply b.words request → d.words ≡ next b.words request
    → d.ledger ≡ b.ledger ++ record { general = shape.general; round = shape.round; request = request; reply = reply b.words request } ∷ []
    → Enters program context (oral shape) opened t d
enters_on program context shape limit a v t opened b d opening request words s all few r is answer left more =
    let relay = oral shape in
    let most = length program in
    let last = before v.state in
    let leads : Leads program context relay r.taken a.state last = subst (λ (own : Relay). Leads program context own r.taken a.state last) s.relay_kept r.leads in
    let asks : step program context relay last ≡ Ask request v.state = ap (λ (own : Relay). step program context own last) (sym s.relay_kept) ∙ r.asks in
    let on : t.state ≡ resumed request (reply b.words request) v.state = is ∙ ap (λ (l : List ℕ). resumed request l v.state) answer in
    let asked : 0 < v.state.steps = r.counted in
    let early : v.state.steps - 1 < most = (let h = r.early in omega arith) in
    let kept : t.state.steps ≡ v.state.steps = ap (λ (u : State). u.steps) is ∙ resumed_counts request words v.state in
    let fewer_left : most - (v.state.steps - 1) ≡ suc (most - t.state.steps) = omega arith in
    let k = most - t.state.steps in
    let x : Access = record { general = shape.general; round = shape.round; request = request; reply = reply b.words request } in
    let rest = accesses program context relay k (next b.words request) (resumed request (reply b.words request) v.state) in
    let same : accesses program context relay k d.words t.state ≡ rest =
    ap (λ (ws : List ℕ). accesses program context relay k ws t.state) left ∙ ap (λ (u : State). accesses program context relay k (next b.words request) u) on in
    let whole : x ∷ rest ≡ accesses program context relay (most - a.state.steps) b.words a.state =
    sym (accesses_asks program context relay k b.words last v.state request asks)
    ∙ (ap (λ (n : ℕ). accesses program context relay n b.words last) (sym fewer_left)
    ∙ sym (accesses_lead program context relay r.taken b.words a.state last leads early)) in
    ap (λ (l : List Access). l ++ accesses program context relay k d.words t.state) more
    ∙ (ap (λ (l : List Access). (b.ledger ++ x ∷ []) ++ l) same
    ∙ (append_assoc b.ledger (x ∷ []) rest
    ∙ (ap (λ (l : List Access). b.ledger ++ l) whole ∙ all)))

-- Proves that one more request is answered.
pub served_more : (program code : List Insn) (context : List ℕ) (shape : Shape) (limit : ℕ) (a v t : Standing) (opened b d : RecordedBoard) (request : Request) (words : List ℕ) → IsServed program context shape opened a b
    → ((answers : List (List ℕ)) → Reached program context a.relay answers a.state → Requests program context a.relay answers limit a.state request v)
    → t.state ≡ resumed request words v.state
    → d.ledger ≡ b.ledger ++ record { general = shape.general; round = shape.round; request = request; reply = reply b.words request } ∷ []
    → limit ≡ length code → code ≡ program → t.relay ≡ v.relay
    → IsAskOfRun program context request v → ((p : List Insn) (bytes : List ℕ) → IsAskOfRun p bytes request v → IsOfRun p bytes t)
    → words ≡ reply b.words request → d.words ≡ next b.words request → d.opening ≡ b.opening
    → IsServed program context shape opened t d
served_more program code context shape limit a v t opened b d request words s on is more long same kept asked run answer left began =
    let few : limit ≤ length program = (let p = ap length same in omega arith) in
    let asks = on s.serving.of_run.answers s.serving.of_run.reached in
    record {
      serving = serves_on program context (oral shape) opened.words limit a v t b d request words s.serving few asks kept is (run program context asked) answer left;
      own = one_more shape opened b d (record { general = shape.general; round = shape.round; request = request; reply = reply b.words request }) s.own began more refl refl;
      entered = enters_on program context shape limit a v t opened b d opened.words request words s.serving s.entered few asks is answer left more;
    }

-- Proves that if the next access is not recorded, those so far are the first of the trial.
pub entered_first : (program : List Insn) (context : List ℕ) (shape : Shape) (opened b d : RecordedBoard) (a : Standing) → IsServed program context shape opened a b → d ≡ b
    → EntersFirst (accesses_on opened.words program context (oral shape)) opened d
entered_first program context shape opened b d a s same =
    let rest = accesses program context (oral shape) (length program - a.state.steps) b.words a.state in
    let own = s.own in
    record {
      opening = ap (λ (k : RecordedBoard). k.opening) same ∙ own.opening;
      more = own.more;
      ledger = ap (λ (k : RecordedBoard). k.ledger) same ∙ own.ledger;
      rest = rest;
      first = append_cancel_left opened.ledger (accesses_on opened.words program context (oral shape)) (own.more ++ rest)
          (sym s.entered ∙ (ap (λ (l : List Access). l ++ rest) own.ledger ∙ append_assoc opened.ledger own.more rest));
    }

-- Proves that no access is missing at the exit.
pub entered_all : (program : List Insn) (context : List ℕ) (shape : Shape) (opening : List ℕ) (limit r0 : ℕ) (a new : Standing) (opened b : RecordedBoard) (s : IsServing program context (oral shape) opening a b)
    → Enters program context (oral shape) opened a b → limit ≤ length program → Exits program context a.relay s.of_run.answers limit a.state r0 new
    → b.ledger ≡ opened.ledger ++ accesses_on opened.words program context (oral shape)
entered_all program context shape opening limit r0 a new opened b s all few e =
    let relay = oral shape in
    let most = length program in
    let leads : Leads program context relay e.taken a.state e.last = subst (λ (own : Relay). Leads program context own e.taken a.state e.last) s.relay_kept e.leads in
    let exit : step program context relay e.last ≡ Exit r0 new.state = ap (λ (own : Relay). step program context own e.last) (sym s.relay_kept) ∙ e.exit in
    let early : e.last.steps < most = (let h = e.early in omega arith) in
    let one : most - e.last.steps ≡ suc (most - e.last.steps - 1) = omega arith in
    let none : accesses program context relay (most - a.state.steps) b.words a.state ≡ [] =
    accesses_lead program context relay e.taken b.words a.state e.last leads early
    ∙ (ap (λ (k : ℕ). accesses program context relay k b.words e.last) one
    ∙ accesses_exits program context relay (most - e.last.steps - 1) b.words e.last new.state r0 exit) in
    sym (append-nil b.ledger) ∙ (ap (λ (l : List Access). b.ledger ++ l) (sym none) ∙ all)

-- Proves that a board without earlier accesses has exactly those of the trial.
pub all_entered : (program : List Insn) (context : List ℕ) (relay : Relay) (words : List ℕ) (b d : RecordedBoard) → b.words ≡ words → b.ledger ≡ []
    → d.ledger ≡ b.ledger ++ accesses_on b.words program context relay → d.ledger ≡ accesses_on words program context relay
all_entered program context relay words b d opened none is =
    is ∙ (ap (λ (l : List Access). l ++ accesses_on b.words program context relay) none ∙ ap (λ (ws : List ℕ). accesses_on ws program context relay) opened)

-- Proves that the accesses in a setting's context and relay are the accesses in the setting.
pub entered_in : (program : List Insn) (s : Setting) (context words : List ℕ) (own : Shape) (ledger : List Access) → context ≡ context_in s → own ≡ s.shape → words ≡ s.board
    → ledger ≡ accesses_on words program context (oral own) → ledger ≡ accesses_in s program
entered_in program s context words own ledger told shape board is =
    is
    ∙ (ap (λ (ws : List ℕ). accesses_on ws program context (oral own)) board
    ∙ (ap (λ (kept : Shape). accesses_on s.board program context (oral kept)) shape ∙ ap (λ (bytes : List ℕ). accesses_on s.board program bytes (oral s.shape)) told))
