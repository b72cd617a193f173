use Rattle.lx_post.proofs.post.Post.open.Given as goal

abbrev pub ghosts-name_plan : goal.ghosts-name_plan
ghosts-name_plan g a = record { plan = a.plan.now }
