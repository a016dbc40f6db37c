mod RegionNodes
