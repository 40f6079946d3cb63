use Rattle.std.proofs.Common.{add-one}
use Rattle.std.proofs.Math.Path.{fun_ext}
use Rattle.model_splitter.proofs.cited.tree.nodes.ConsistentKept.{consistent_new, begun, gone_on, elsewhere, segments, marks, refused}
use Rattle.model_splitter.proofs.cited.tree.nodes.TreeLaw.{tree_law, nearer, unplaced}
use Rattle.model_splitter.proofs.cited.tree.nodes.WalkerLemmas.{place_is_reported, ended_there}
use Rattle.model_splitter.proofs.tree.laws.law_of_nodes_and_walks.Goals as goal

pub returns : goal.returns
returns g c = record {
  fresh = λ memory most s empty few. consistent_new memory most s empty few;
  begun = λ memory most b s walker p holds some absent room. rw (add-one b) (begun memory most b s walker holds p some absent room);
  gone_on = λ memory most b s walker p u tree holds is. gone_on memory most b s walker holds tree p u is;
  elsewhere = λ memory most b s other walker holds same. elsewhere memory most b s walker holds other (fun_ext (λ k. (same k).0)) (fun_ext (λ k. (same k).1)) (fun_ext (λ k. (same k).2));
  law = λ memory most b s walker holds. tree_law memory most b s walker holds;
  nearer = λ memory most b s walker p u got holds is on. nearer memory most b s walker holds p u is on got;
  unplaced = λ memory most b s walker p u holds is on. unplaced memory most b s walker holds p u is on;
  reported = place_is_reported;
  ended = ended_there;
  segments = λ memory most b s walker p u k tree holds is. segments memory most b s walker holds tree p u is k;
  marks = λ memory most b s walker p u k tree holds is. marks memory most b s walker holds tree p u is k;
  refused = λ memory most b s walker p u tree holds is lacks. refused memory most b s walker holds tree p u is lacks;
}
