use Rattle.ht_laws.proofs.ExponentChainLaws.{chain_next, chain_ends}
use Rattle.ht_laws.proofs.powers.a_chain_leads_up_to_its_exponent.Goals as goal

pub returns-clause-last : goal.returns-clause-last
returns-clause-last c = chain_ends

pub returns-clause-next : goal.returns-clause-next
returns-clause-next c = chain_next
