use Rattle.std.proofs.Common.{◌≡◌, ◌≤◌, ◌++◌, ℕ, List, Vec, Global, length, ap, ◌∙◌, arith}
use Rattle.std.proofs.lemmas.Result.{IfOk-weaker}
use Rattle.std.specs.Vec.{vec_len}
use Rattle.semantics.proofs.PlacesLaws.{relays_few}
use Rattle.label.specs.Relay.{relay}
use Rattle.semantics.specs.Relay.{oral}
use Rattle.round.specs.Contexts.{context_bytes}
use Rattle.mem.proofs.Bytes.{bytes_context}
use Rattle.mem.proofs.Spelling.{header_numbers}
use Rattle.trial.specs.Setting.{context_in}
use Rattle.trial.proofs.setting.Setting.context.Goals as goal

pub overflow_cast-header : goal.overflow_cast-header
overflow_cast-header c =
    let few : length (relay c.self.inside.shape) ≤ 990 = relays_few (oral c.self.inside.shape) c.self.invariant.limits in
    let each : length c.self.inside.taken.items ≡ length (relay c.self.inside.shape) = c.self.invariant.each in
    let len : length c.as_slice-taken.result.now ≡ length c.self.inside.taken.items = ap length c.as_slice-taken.ensures.value in
    omega arith

pub context_telling-requires : goal.context_telling-requires
context_telling-requires c =
    let few : length (relay c.self.inside.shape) ≤ 990 = relays_few (oral c.self.inside.shape) c.self.invariant.limits in
    let each : length c.self.inside.taken.items ≡ length (relay c.self.inside.shape) = c.self.invariant.each in
    let len : length c.as_slice-taken.result.now ≡ length c.self.inside.taken.items = ap length c.as_slice-taken.ensures.value in
    record { few = omega arith }

pub returns-clause-bytes : goal.returns-clause-bytes
returns-clause-bytes c =
    let s = c.self.inside in
    let taken : List ℕ = c.as_slice-taken.result.now in
    IfOk-weaker c.context_telling.result
    (λ (v : Vec ℕ Global). v.items ≡ context_bytes (header_numbers s.shape s.bound (length taken) ++ taken))
    (λ (v : Vec ℕ Global). v.items ≡ context_in c.args.self.now)
    (λ v is. is ∙ (ap (λ (l : List ℕ). context_bytes (header_numbers s.shape s.bound (length l) ++ l)) c.as_slice-taken.ensures.value ∙ ap context_in c.self.view_is))
    c.context_telling.ensures

pub returns-clause-whole : goal.returns-clause-whole
returns-clause-whole c =
    let s = c.self.inside in
    let taken : List ℕ = c.as_slice-taken.result.now in
    let numbers : List ℕ = header_numbers s.shape s.bound (length taken) ++ taken in
    IfOk-weaker c.context_telling.result
    (λ (v : Vec ℕ Global). v.items ≡ context_bytes numbers)
    (λ (v : Vec ℕ Global). vec_len v ≡ 4096)
    (λ v is. let o = v.ok in let long = (bytes_context numbers).long in let same = ap length is in omega arith)
    c.context_telling.ensures
