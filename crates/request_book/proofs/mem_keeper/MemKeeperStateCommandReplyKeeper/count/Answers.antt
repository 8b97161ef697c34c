use Rattle.request_book.proofs.mem_keeper.MemKeeperStateCommandReplyKeeper.count.Goals as goal

pub returns : goal.returns
returns g c = rw (← c.self.view_is) (λ _. c.len.ensures)
