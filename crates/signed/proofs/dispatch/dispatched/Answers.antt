use Rattle.std.proofs.Common.{List, ◌++◌, get_or, sym, ap, ◌∙◌, arith}
use Rattle.signed.specs.Chains.{Chain}
use Rattle.signed.specs.Entries.{Dispatch, Sign, bits_of, chain_of, sent_by}
use Rattle.signed.proofs.Dispatching.{dispatched_more}
use Rattle.signed.proofs.dispatch.dispatched.Goals as goal

pub loop-entry-preserved : goal.loop-entry-preserved
loop-entry-preserved c =
    let n = c.args.generals in
    let commander = c.args.signer.now.commander in
    let general = c.args.signer.now.general in
    let held : List Chain = c.args.held.now.chains in
    let entry = get_or c.args.entries.now c.loop-entry.entry-index (Sign 0 0) in
    record {
      sent = c.in_ok-send.ensures.sent
          ∙ (ap (λ (ds : List Dispatch). ds ++ sent_by n (chain_of commander general held entry) (bits_of entry)) c.loop-entry.invariant.sent
          ∙ sym (dispatched_more n commander general held c.args.entries.now c.loop-entry.entry-index (Sign 0 0) (omega arith)));
      few = omega (arith, c.in_ok-send.ensures.one);
    }
