-- The context has the campaign's numbers, and those of the chains held.
use Rattle.std.proofs.Common.{◌≡◌, ◌+◌, ◌-◌, ℕ, [], ◌∷◌, length, flat_map, Vec, Global, ap, ◌∙◌, arith}
use Rattle.std.proofs.lemmas.Result.{IfOk-weaker}
use Rattle.round.specs.Contexts.{context_bytes}
use Rattle.signed.specs.Chains.{Chain}
use Rattle.signed.specs.Contexts.{signer_bits}
use Rattle.signed.specs.Sending.{context_behind, HeldChains}
use Rattle.signed.proofs.Written.{numbers_few, context_is}
use Rattle.signed.proofs.briefing.context.Goals as goal

pub context_telling-requires : goal.context_telling-requires
context_telling-requires c =
    record { few = numbers_few c.args.held.now.chains c.as_slice.result.now c.requires.few (c.as_slice.ensures.value ∙ c.in_ok-numbers.ensures) }

pub returns : goal.returns
returns c =
    let a = c.args in
    let s = a.scenario.now in
    let n = c.from-generals.result in
    let m = c.from.result in
    let g = c.from-2.result in
    let k = c.from-3.result in
    let round = length a.sent.now + 1 in
    let count = c.len.result in
    let numbers = c.as_slice.result.now in
    let size : n ≡ s.generals = c.from-generals.ensures ∙ c.generals.ensures.same in
    let told : numbers ≡ flat_map (λ (ch : Chain). ch.order ∷ signer_bits ch ∷ []) a.held.now.chains = c.as_slice.ensures.value ∙ c.in_ok-numbers.ensures in
    IfOk-weaker c.context_telling.result
    (λ (v : Vec ℕ Global). v.items ≡ context_bytes (n ∷ m ∷ g ∷ k ∷ round ∷ count ∷ (n - 1) ∷ 1 ∷ numbers))
    (λ (v : Vec ℕ Global). v.items ≡ context_behind s a.sent.now a.general)
    (λ v is. context_is s a.sent.now a.general n m g k round count (n - 1) numbers v.items c.requires.rows size (c.from.ensures ∙ c.bound.ensures.same) c.from-2.ensures (c.from-3.ensures ∙ c.commander.ensures.same) (omega arith)
    (c.len.ensures ∙ ap (λ (h : HeldChains). length h.chains) c.requires.held) (ap (λ (x : ℕ). x - 1) size) (told ∙ ap (λ (h : HeldChains). flat_map (λ (ch : Chain). ch.order ∷ signer_bits ch ∷ []) h.chains) c.requires.held) is)
    c.context_telling.ensures
