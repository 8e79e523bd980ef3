use Rattle.page.proofs.exports.page_sector.Goals as goal

pub returns-in-Some-clause-none : goal.returns-in-Some-clause-none
returns-in-Some-clause-none c = λ no. absurd (no c.in-Some.ensures.0)

pub returns-in-None-clause-role : goal.returns-in-None-clause-role
returns-in-None-clause-role c = λ are. absurd (c.in-None.ensures are)

pub returns-in-None-clause-words : goal.returns-in-None-clause-words
returns-in-None-clause-words c = λ are. absurd (c.in-None.ensures are)
