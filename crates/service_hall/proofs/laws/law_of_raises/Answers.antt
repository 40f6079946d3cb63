use Rattle.service_hall.proofs.TokenLemmas.{gave, never_less}
use Rattle.service_hall.proofs.laws.law_of_raises.Goals as goal

pub returns : goal.returns
returns c = record {
  rising = λ rules gives h u ts number. never_less rules gives h u ts number;
  above = λ rules gives h u before behind x id token. gave rules gives h u before behind x id token;
}
