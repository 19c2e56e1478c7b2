-- The next link in an intersection, by the next links in both.
use Rattle.alignment.proofs.Layers.{intersected_first_none, intersected_second_none, intersected_found, intersected_skips}

pub ruleset intersection_next = (intersected_first_none, intersected_second_none, intersected_found, intersected_skips)
