use Rattle.std.proofs.Math.Facts.{Fits-lt-pow}
use Rattle.std.specs.Int.{w8}
use Rattle.codec.proofs.DecodingLemmas.{all_written, all_inside}
use Rattle.codec.proofs.decoder.read.Goals as goal

pub returns-clause-inside : goal.returns-clause-inside
returns-clause-inside c =
    all_inside c.meaning.result c.meaning.new.place c.args.bytes.now c.requires c.meaning.ensures.found

pub returns-clause-found : goal.returns-clause-found
returns-clause-found c =
    all_written c.meaning.result c.meaning.new.place c.args.bytes.now c.requires (λ k. Fits-lt-pow {w = w8} (c.type_inv.bytes k)) c.meaning.ensures.found
