mod ExampleTyped
