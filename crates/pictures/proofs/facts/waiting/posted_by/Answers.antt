use Rattle.std.proofs.Common.{◌∙◌, ap}
use Rattle.std.specs.List.{before_first}
use Rattle.pictures.specs.Words.{is_space}
use Rattle.pictures.specs.Posts.Posts.{to_all, to_one}
use Rattle.pictures.proofs.facts.waiting.posted_by.Goals as goal

pub returns-in-broadcast : goal.returns-in-broadcast
returns-in-broadcast c = rw (c.in_ok-word.ensures.whole, c.in-broadcast.is) (to_all c.in_ok-word.rest.now)

pub returns-in_ok-to-in-post-2 : goal.returns-in_ok-to-in-post-2
returns-in_ok-to-in-post-2 c =
    rw (c.in_ok-word.ensures.whole, c.in-post.is, c.in_ok-to-in-post.ensures.whole, c.in_ok-to-in-post-2.ensures)
    (to_one c.in_ok-to-in-post.to.now c.in_ok-to-in-post.event.now
    (c.in_ok-to-in-post.ensures.word ∙ ap (before_first is_space) c.in_ok-to-in-post.ensures.whole))
