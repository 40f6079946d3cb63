use Rattle.model_splitter.proofs.cited.tree.collects.WalkLemmas.{ahead_at_first, ahead_kept, ahead_resumed, register_is, place_from, upcoming_before, read_once}
use Rattle.model_splitter.proofs.cited.tree.collects.ReadCount.{read_at_first, read_here, read_kept, read_resumed, reads_few, nodes_few}
use Rattle.model_splitter.proofs.tree.laws.law_of_collects.Goals as goal

pub returns : goal.returns
returns c = record {
  first = ahead_at_first;
  kept = ahead_kept;
  read = ahead_resumed;
  segment = register_is;
  stands = place_from;
  upcoming = upcoming_before;
  once = read_once;
  here = read_here;
  none_read = read_at_first;
  reads_kept = read_kept;
  one_read = read_resumed;
  few_reads = reads_few;
  few_nodes = nodes_few;
}
