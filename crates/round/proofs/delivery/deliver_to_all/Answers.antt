-- All labels of the round are entered.
use Rattle.std.proofs.Common.{◌≡◌, ◌<◌, ◌∷◌, [], length, arith, rules}
use Rattle.round.specs.Told.{round_of}
use Rattle.round.proofs.Together.{all_told, none_told, round_told}
use Rattle.round.proofs.delivery.deliver_to_all.Goals as goal
use Rattle.std.proofs.lemmas.List.{nil_from_length}

pub returns-then-is_empty : goal.returns-then-is_empty
returns-then-is_empty c =
    let none : length c.args.letters.now ≡ 0 = search rules in
    none_told c.args.generals c.args.commander c.args.letters.now c.args.trees.now c.requires.trees (nil_from_length c.args.letters.now none)

pub descend-requires-clause-route : goal.descend-requires-clause-route
descend-requires-clause-route c =
    let row = c.args.letters.now in
    let some : 0 < length row = search rules in
    let round : c.shape-size.result.round ≡ round_of row = round_told c.args.generals c.args.commander row c.shape-size.result _ c.index-letters-0.result c.requires.letters c.first.view_is c.index-letters-0.is some c.shape-size.ensures.same in
    let front = c.of-front.ensures c.args.generals c.requires.commander c.requires.few in
    record {
      few = c.requires.few;
      size = round;
      small = c.shape-size.ensures.within.last;
      indexed = c.letter_indices-indices.ensures;
      short = (let s = front.size in let f = c.shape-size.ensures.within.first in let ne = c.if-size-eq1.false in omega arith);
      c = c.args.commander;
      w = c.args.commander ∷ [];
      inside = c.requires.commander;
      front = front;
      due = c.requires.trees;
    }

pub returns : goal.returns
returns c =
    let row = c.args.letters.now in
    let some : 0 < length row = search rules in
    let round : c.shape-size.result.round ≡ round_of row = round_told c.args.generals c.args.commander row c.shape-size.result _ c.index-letters-0.result c.requires.letters c.first.view_is c.index-letters-0.is some c.shape-size.ensures.same in
    all_told c.args.generals c.args.commander row c.shape-size.result.round c.of-front.result c.args.trees.now c.descend.new.trees c.requires.trees round
    (let f = c.shape-size.ensures.within.first in let ne = c.if-size-eq1.false in omega arith) (c.of-front.ensures c.args.generals c.requires.commander c.requires.few) c.descend.ensures
