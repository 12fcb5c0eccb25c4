-- A signed letter with the context and the relay of its round has its briefing if a loyal general's also has the
-- outbox.
use Rattle.std.proofs.Common.{◌≡◌, ℕ, false, List, [], refl, sym, ap, ◌∙◌, Option, Some, None}
use Rattle.std.specs.Prelude.{is_some}
use Rattle.insn.specs.declared.insn.Insn.{Insn}
use Rattle.outbox.specs.Contents.{Contents}
use Rattle.round.specs.Scenario.{Scenario, program_of}
use Rattle.round.specs.Letters.{Letter}
use Rattle.signed.specs.Kind.{signed_context, signed_entries, signed_kind, signed_relay}
use Rattle.signed.specs.Logs.{begun_entries}
use Rattle.threads.specs.Holding.{IsBriefed}
use Rattle.signed_threads.specs.Outsets.{HasOutset}

none_of : (o : Option (List Insn)) → is_some o ≡ false → o ≡ None
none_of None e = refl
none_of (Some p) e = cc

module _ (s : Scenario) (before : List (List Letter)) (g : ℕ) (l : Letter) (context : List ℕ) (o : Contents) (told : context ≡ signed_context s before g) (relay : o.relay ≡ signed_relay s before g) (rows : o.rows ≡ [])
    (entries : o.entries ≡ begun_entries s before g (program_of s g)) where
  loyal_entries_are : program_of s g ≡ None → o.entries ≡ signed_entries s before g
  loyal_entries_are none = entries ∙ ap (begun_entries s before g) none

  pub briefed : HasOutset s g l context o → IsBriefed signed_kind s before g l
  briefed has = record {
    context = has.same_context ∙ told;
    relay = has.relay ∙ relay;
    loyal = λ none.
        let same = has.loyal (ap is_some none) in
        (ap (λ (x : Contents). x.rows) same ∙ rows, ap (λ (x : Contents). x.entries) same ∙ loyal_entries_are none);
  }

  pub has_briefing : IsBriefed signed_kind s before g l → HasOutset s g l context o
  has_briefing is = record {
    same_context = is.context ∙ sym told;
    relay = is.relay ∙ sym relay;
    loyal = λ good.
        let none = none_of (program_of s g) good in
        let sends = is.loyal none in
        (λ i. record {
          relay = (is.relay ∙ sym relay) i;
          rows = (sends.0 ∙ sym rows) i;
          entries = (sends.1 ∙ sym (loyal_entries_are none)) i;
        });
  }
