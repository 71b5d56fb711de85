mod Inner
