use Rattle.calls.proofs.held.ImageWork.go_on.Given as goal

abbrev pub ghost-begin : goal.ghost-begin
ghost-begin g a = g.content
