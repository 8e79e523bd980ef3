use Rattle.cache.proofs.batch.Batch.put_block.Goals as goal

pub returns-clause-put : goal.returns-clause-put
returns-clause-put c = rw (← c.self.view_is) c.put.ensures.put.puts

pub returns-clause-next : goal.returns-clause-next
returns-clause-next c = c.put.ensures.next
