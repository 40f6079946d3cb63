-- why a hall was not opened says nothing of the token
use Rattle.std.proofs.Common.{◌≡◌, Result, Ok, Err, IsErrAnd, sym, ◌∙◌}
use Rattle.model_steps.specs.declared.refusal.Refusal.{Refusal}
use Rattle.model_steps.specs.declared.refusal.Refusal.TheVariants.{NoMemory}
use Rattle.service_follow.specs.Faults.{fault_of_refusal}
use Rattle.service_follow.specs.declared.log_fault.LogFault.{LogFault}
use Rattle.service_follow.specs.declared.log_fault.LogFault.TheVariants.{Token}

no_token : (why : Refusal) → fault_of_refusal why ≡ Token → ⊥
no_token NoMemory is = absurd (cc)
no_token why is = absurd (cc)

pub refused : {T X : Type 0} (r : Result T LogFault) (why : Refusal) → IsErrAnd r (λ fault. fault ≡ fault_of_refusal why) → r ≡ Err Token → X
refused (Ok x) why of is = absurd (cc)
refused (Err fault) why of is = absurd (no_token why (sym of ∙ (let same : fault ≡ Token = cc in same)))
