-- The context and the outbox with which a general begins a signed round make his task.
use Rattle.std.proofs.Common.{◌≡◌, ℕ, suc, ◌<◌, ◌≤◌, List, [], length, take, take_all, sym, ap, subst, ◌∙◌, Option, Some, None, arith}
use Rattle.insn.specs.declared.insn.Insn.{Insn}
use Rattle.label.specs.declared.shape.Shape.{Shape}
use Rattle.label.specs.Relay.{IsShape}
use Rattle.semantics.specs.Outbox.{empty_outbox}
use Rattle.semantics.specs.Relay.{Relay}
use Rattle.outbox.specs.Contents.{Contents}
use Rattle.round.specs.Scenario.{Scenario, IsScenario, program_of, shape_of}
use Rattle.round.specs.Letters.{Letter}
use Rattle.round.specs.Contexts.{IsToldTo, rows_told, shape_told, tells_oral}
use Rattle.round.proofs.Contexts.{shape_is}
use Rattle.signed.specs.Kind.{signed_context, signed_kind, signed_relay}
use Rattle.signed.specs.Logs.{begun_entries}
use Rattle.signed.proofs.Telling.{not_oral, signed_relays}
use Rattle.signed.proofs.Worlds.{signed_campaigns}
use Rattle.threads.specs.Duties.{HasBegun, IsOutset, begun_outbox, duty_of}

-- The first rounds are all rounds if there are no more.
pub all_rounds : (before : List (List Letter)) (rounds : ℕ) → rounds ≡ length before → take rounds before ≡ before
all_rounds before rounds e = take_all rounds before (omega arith)

module _ (s : Scenario) (before : List (List Letter)) (g : ℕ) (is : IsScenario s) (lt : g < s.generals) (le : length before ≤ s.bound) (h round : ℕ) (context : List ℕ) (o : Contents)
    (own : h ≡ g) (of_round : round ≡ suc (length before)) (told : context ≡ signed_context s before g) (relay : o.relay ≡ signed_relay s before g) (rows : o.rows ≡ []) where
  never : tells_oral context → ⊥
  never spoken = not_oral s before g (subst (λ (c : List ℕ). tells_oral c) told spoken)

  pub context_long : length context ≡ 4096
  context_long = ap length told ∙ ((signed_campaigns s is).context before g lt le).long

  pub is_told : IsToldTo h round context
  is_told =
      let there = signed_context s before g in
      subst (λ (c : List ℕ). IsToldTo h round c) (sym told)
      (subst (λ (n : ℕ). IsToldTo h n there) (sym of_round) (subst (λ (k : ℕ). IsToldTo k (suc (length before)) there) (sym own) ((signed_relays s is).own before g lt le)))

  shape_same : shape_told h round context ≡ shape_of s g (suc (length before))
  shape_same = (λ i. shape_told (own i) (of_round i) (told i)) ∙ sym ((signed_relays s is).shape before g lt le)

  pub is_shape : IsShape (shape_told h round context)
  is_shape = subst (λ (shape : Shape). IsShape shape) (sym shape_same) (shape_is s g (length before) is lt le)

  begun : (p : Option (List Insn)) → o.entries ≡ begun_entries s before g p → HasBegun context p o
  begun None e = (rows ∙ ap (λ (r : Relay). rows_told r context) (sym relay), λ spoken. absurd (never spoken))
  begun (Some program) e = (rows ∙ ap empty_outbox (sym relay), e)

  pub is_outset : (p : Option (List Insn)) → o.entries ≡ begun_entries s before g p → IsOutset h round context p o
  is_outset p e = record {
    shape = ap (λ (r : Relay). r.shape) relay ∙ sym shape_same;
    kind = λ spoken. absurd (never spoken);
    begun = begun p e;
  }

  outbox_is : (p : Option (List Insn)) → o.entries ≡ begun_entries s before g p → o ≡ begun_outbox signed_kind s before g p
  outbox_is None e = (λ i. record { relay = relay i; rows = rows i; entries = e i })
  outbox_is (Some program) e = (λ i. record { relay = relay i; rows = rows i; entries = e i })

  pub duty_is : (program : Option (List Insn)) (patience : Option ℕ) → program ≡ program_of s g → patience ≡ s.patience → o.entries ≡ begun_entries s before g (program_of s g)
      → record { general = h; round = round; context = context; program = program; patience = patience; outbox = o } ≡ duty_of signed_kind s before g
  duty_is program patience has within e =
      let outbox = outbox_is (program_of s g) e in
      (λ i. record { general = own i; round = of_round i; context = told i; program = has i; patience = within i; outbox = outbox i })
