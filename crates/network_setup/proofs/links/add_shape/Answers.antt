use Rattle.std.proofs.Common.{rules}
use Rattle.medium_core.specs.Code.Airs.{link_lists}
use Rattle.network_setup.proofs.Linking.{shape_added}
use Rattle.network_setup.proofs.links.add_shape.Goals as goal

pub returns : goal.returns
returns c =
    shape_added c.args.shape c.args.carriage c.add_links_of.new.carriage c.args.links.now (link_lists c.add_links_of.new.links)
    (search rules) c.add_links_of.result c.add_links_of.ensures
