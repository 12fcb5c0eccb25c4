use Rattle.semantics.proofs.ReachedLaws.{reached_safe, reached_fewer}
use Rattle.semantics.proofs.laws.reached_is_safe.Goals as goal

pub returns : goal.returns
returns c = record {
  safe = λ program context shape answers s sound in_context in_limits reached. reached_safe program context shape sound in_context in_limits reached;
  fewer = λ program context shape answers s sound in_context in_limits reached. reached_fewer program context shape sound in_context in_limits reached;
}
