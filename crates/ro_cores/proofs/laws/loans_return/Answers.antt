use Rattle.ro_cores.proofs.Lending.{loan-goes, loan-lease, loan-share, loan-returns, loan-allowed, loan-entry, loan-idle, loan-next, loan-open}
use Rattle.ro_cores.proofs.laws.loans_return.Goals as goal

pub returns-clause-goes : goal.returns-clause-goes
returns-clause-goes c = loan-goes

pub returns-clause-lease : goal.returns-clause-lease
returns-clause-lease c = loan-lease

pub returns-clause-share : goal.returns-clause-share
returns-clause-share c = loan-share

pub returns-clause-returns : goal.returns-clause-returns
returns-clause-returns c = loan-returns

pub returns-clause-allowed : goal.returns-clause-allowed
returns-clause-allowed c = loan-allowed

pub returns-clause-entry : goal.returns-clause-entry
returns-clause-entry c = loan-entry

pub returns-clause-idle : goal.returns-clause-idle
returns-clause-idle c = loan-idle

pub returns-clause-next : goal.returns-clause-next
returns-clause-next c = loan-next

pub returns-clause-open : goal.returns-clause-open
returns-clause-open c = loan-open
