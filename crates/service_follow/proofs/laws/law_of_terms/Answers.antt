use Rattle.service_follow.proofs.TermsRead.{terms_read}
use Rattle.service_follow.proofs.laws.law_of_terms.Goals as goal

pub returns : goal.returns
returns c = terms_read
