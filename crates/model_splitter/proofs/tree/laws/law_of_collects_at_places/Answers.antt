use Rattle.model_splitter.proofs.cited.tree.collects.PlacesAhead.{sees, marks_spared, path_marked, place_ahead, marked_few, walk_few, marks_grow}
use Rattle.model_splitter.proofs.tree.laws.law_of_collects_at_places.Goals as goal

pub returns : goal.returns
returns g c = record {
  paths = λ memory most b s walker p k holds at. path_marked memory most b s walker holds p k at;
  ahead = λ memory most b s walker p k holds at. place_ahead memory most b s walker holds p k at;
  sees = λ memory s w. sees memory s w;
  marked = λ memory most b s walker n holds. marked_few memory most b s walker holds n;
  few = λ memory most b s walker w nodes reads holds r. walk_few memory most b s walker holds w nodes reads r;
  gone_on = λ memory most b s walker p u tree holds is. marks_grow memory most b s walker holds tree p u is;
  written = λ memory s k segment tree. marks_spared memory s k segment tree;
}
