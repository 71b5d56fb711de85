mod MaskLemmas
mod RoadLemmas
