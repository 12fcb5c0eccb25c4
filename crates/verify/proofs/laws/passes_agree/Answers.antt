use Rattle.std.proofs.Common.{◌≡◌, None, Some}
use Rattle.verify.specs.Judgement.{judged}
use Rattle.verify.proofs.PassLaws.{through_judged, stopped_judged}
use Rattle.verify.proofs.laws.passes_agree.Goals as goal

pub returns : goal.returns
returns c = record {
  through = through_judged;
  stopped = stopped_judged;
  not_both = λ program fault none h k.
      let accepted : judged program ≡ None = through_judged program none h in
      let refused : judged program ≡ Some fault = stopped_judged program fault none k in
      cc;
  not_two = λ program fault other none h k.
      let first : judged program ≡ Some fault = stopped_judged program fault none h in
      let second : judged program ≡ Some other = stopped_judged program other none k in
      cc;
}
