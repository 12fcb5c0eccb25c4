use Rattle.std.proofs.Common.{◌≡◌, [], arith, string_bytes, w8}
use Rattle.std.proofs.Math.Facts.{Fits-lt-pow}
use Rattle.std.proofs.lemmas.Grind.{common_steps}
use Rattle.asm.proofs.ByteLemmas.{are_bytes}
use Rattle.asm.proofs.PieceLemmas.{all_read, read_on, whole_left}
use Rattle.asm.proofs.PartialLemmas.{says_again}
use Rattle.asm.proofs.partial.disassembler.text_of.Goals as goal

pub loop-rest-preserved : goal.loop-rest-preserved
loop-rest-preserved c = record {
  whole = whole_left c.loop-rest.rest.now c.behind-rest.result.now c.in_ok-size.size c.loop-rest.invariant.whole c.in_ok-size.ensures.whole c.in_ok-size.ensures.inside c.behind-rest.ensures;
  read = read_on c.args.bytes.now c.loop-rest.rest.now c.behind-rest.result.now (string_bytes c.loop-rest.text) (string_bytes c.put_line.new.text) c.in_ok-size.size
      c.loop-rest.invariant.read c.in_ok-size.ensures.piece c.behind-rest.ensures;
}

pub returns-clause-text : goal.returns-clause-text
returns-clause-text c =
    let none : c.loop-rest.rest.now ≡ [] = grind (arith, common_steps) in
    all_read c.args.bytes.now c.loop-rest.rest.now (string_bytes c.loop-rest.text) c.loop-rest.invariant.read.0 none c.loop-rest.invariant.read.1

pub returns-clause-again : goal.returns-clause-again
returns-clause-again c =
    let none : c.loop-rest.rest.now ≡ [] = grind (arith, common_steps) in
    says_again c.args.bytes.now (string_bytes c.loop-rest.text) (are_bytes c.args.bytes.now (λ k. Fits-lt-pow {w = w8} (c.type_inv.bytes k)))
    (all_read c.args.bytes.now c.loop-rest.rest.now (string_bytes c.loop-rest.text) c.loop-rest.invariant.read.0 none c.loop-rest.invariant.read.1)
